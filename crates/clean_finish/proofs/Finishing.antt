-- The end that sends its FIN.
use Rattle.clean_finish.proofs.Words.{◌≡◌, refl, sym, subst, ap, ◌∙◌, ℕ, ◌+◌, ◌<◌, ◌≤◌, min, max, Bool, true, false, None, List, length, arith, both_ways}
use Rattle.clean_finish.proofs.Words.{All-weaker, Side, nothing_due, Occasion, after_finishing, after_sending, Duty, pick, Profile, PathEnd, with_told, Setting}
use Rattle.clean_finish.proofs.Words.{Lane, EndIs, HeardIs, IsGranted, last_told, row_seen, brings_still, IsOpen, IsToldEdge, Sent, Keys, octets_of, said}
use Rattle.clean_finish.proofs.Words.{data_fin_of, Facing, Half, Open}
use Rattle.subflow_tcp.specs.States.{after_finish}
use Rattle.clean_finish.proofs.FinPushed.{fin_pushed}
use Rattle.clean_finish.proofs.Sendings.{out_after as sent_after, back_after as said_after}
use Rattle.clean_finish.proofs.Spans.{spans_for}

module _ {s : Side} {keys : Keys} {k j : Setting} {c : Profile} {begun begun_back : Lane} {m n : Half} {clock until : ℕ} {es : List Duty}
    (h : Facing s keys k j c begun begun_back m n clock until es) (x : Sent) (shut : Bool)
  where
    abbrev out_after : Lane
    out_after = sent_after h x shut

    abbrev back_after : Lane
    back_after = said_after h x shut

    abbrev pub end_after : PathEnd
    end_after = record (with_told (said c keys s x) m.end) { tcp = after_sending Occasion.Fin clock (after_finishing m.end.tcp) }

    module _ (still : brings_still h.hand ≡ false) (nothing_waits : h.waiting ≡ 0) (unowed : h.owes ≡ false) (same_shut : shut ≡ h.out.shut)
        (low : x.low ≡ h.out.granted) (none : length (octets_of x.brings) ≡ 0) (none_fin : data_fin_of x.brings ≡ 0) (one : h.out.control_sent ≡ 1)
        (control : x.control ≡ 2) (unacked : h.out.control_acked ≤ 1) (came : 1 ≤ h.back.control_came) (una : 1 ≤ m.end.tcp.send.una)
        (is_open : IsOpen true (after_finish m.end.tcp.state)) (acked : k.total < h.out.acked) (shown : max h.out.keys_sent x.keys ≤ pick s h.out.ready 0)
        (told : IsToldEdge s j false back_after.receiver end_after.receiving.told_edge) (least : j.least ≤ x.telling.edge + 31) (clear : 1 ≤ h.out.clear)
        (row : m.end.tcp.congestion.duplicates ≤ row_seen h.out.sender None) (heard : HeardIs s k.total (last_told h.out.heard None) m.end.tcp)
      where
        same_granted : x.low + length (octets_of x.brings) ≡ h.out.granted
        same_granted = plus low none
          where
            plus : {a b g : ℕ} → a ≡ g → b ≡ 0 → a + b ≡ g
            plus is zero_is = omega (arith, is, zero_is)

        two_sent : max h.out.control_sent x.control ≡ 2
        two_sent = sum one control
          where
            sum : {a b : ℕ} → a ≡ 1 → b ≡ 2 → max a b ≡ 2
            sum p q = omega (arith, p, q)

        max_none : {a b : ℕ} → b ≡ 0 → max a b ≡ a
        max_none is = omega (arith, is)

        said_on : {a b d : ℕ} → d ≡ 0 → a ≤ b → max a d ≤ max b d
        said_on is less = omega (arith, is, less)

        within : {to granted later waiting : ℕ} → later ≡ granted → waiting ≡ 0 → to ≤ granted + waiting → to ≤ later + 0
        within is zero_is less = omega (arith, is, zero_is, less)

        bytes_some : {granted later : ℕ} (waiting : ℕ) → later ≡ granted → 1 ≤ later + 0 → 1 ≤ granted + waiting
        bytes_some waiting is less = omega (arith, is, less)

        not_two : {a : ℕ} → a ≤ 1 → a ≡ 2 → ⊥
        not_two p q = absurd (omega (arith, p, q))

        not_clear : {a : ℕ} → 1 ≤ a → a ≡ 0 → ⊥
        not_clear p q = absurd (omega (arith, p, q))

        one_low : {a : ℕ} (d : ℕ) → 1 ≤ a → min 1 d ≤ a
        one_low d p = omega (arith, p)

        pub own_finished : EndIs s keys k j out_after.sender back_after.receiver None false 0 end_after
        own_finished = record {
          subflow = record {
            phase = Open came una is_open;
            opens = h.own.subflow.opens;
            records = fin_pushed k h.out.sender out_after.sender h.waiting clock m.end.tcp end_after.tcp h.own.subflow.records nothing_waits one refl same_granted two_sent;
            ahead = record {
              bytes = h.own.subflow.ahead.bytes;
              opened = h.own.subflow.ahead.opened;
              finished = λ two. absurd (not_two unacked two);
              seen = h.own.subflow.ahead.seen;
            };
            congestion = record {
              window = h.own.subflow.congestion.window;
              most = h.own.subflow.congestion.most;
              steady = h.own.subflow.congestion.steady;
              row = row;
            };
            come = record { edge = h.own.subflow.come.edge; window = h.own.subflow.come.window };
            heard = record { told = heard.told; most = heard.most; end = heard.end; few = heard.few; some = heard.some };
            quiet = λ off. absurd (both_ways _ off is_open.connected);
            begun = λ is. one_low out_after.control_sent came;
            keyed = λ is some b. h.own.subflow.keyed is some still;
            long = h.own.subflow.long;
            due = h.own.subflow.due ∙ ap (λ (b : Bool). record nothing_due { ack = b }) unowed;
          };
          sending = record {
            heard = h.own.sending.heard;
            known = h.own.sending.known;
            data_fin = max_none none_fin ∙ h.own.sending.data_fin;
            acked = h.own.sending.acked;
            came = h.own.sending.came;
            shut = (λ e. h.own.sending.shut.0 nothing_waits ∙ sym same_shut, λ some. absurd (omega (arith, some)));
            granted = All-weaker (IsGranted h.out.sender h.waiting) (IsGranted out_after.sender 0)
                (λ span is. record { waits = is.waits; within = within same_granted nothing_waits is.within }) m.end.sending.granted h.own.sending.granted;
            spans = spans_for m.end.sending.granted h.out.acked h.out.granted h.waiting out_after.granted same_granted nothing_waits h.own.sending.spans;
            bytes = λ some. h.own.sending.bytes (bytes_some h.waiting same_granted some);
            end = subst (λ (n : ℕ). n ≤ h.out.clear) (sym (max_none none_fin)) h.own.sending.end;
            acked_end = λ more. subst (λ (n : ℕ). 1 ≤ n) (sym (max_none none_fin)) (h.own.sending.acked_end more);
            finish = λ two. acked;
          };
          receiving = record {
            next = h.own.receiving.next;
            limit = h.own.receiving.limit;
            told = told;
            least = λ some. least;
            unmapped = h.own.receiving.unmapped;
            fin_told = h.own.receiving.fin_told;
            said = said_on none_fin h.own.receiving.said;
            unended = h.own.receiving.unended;
            unheard = λ is zero_is. absurd (not_clear clear zero_is);
          };
          modes = record {
            mode = h.own.modes.mode;
            standby = h.own.modes.standby;
            mapping = h.own.modes.mapping;
            owes_third = h.own.modes.owes_third;
            owes_mapping = h.own.modes.owes_mapping;
            mapped_to = rw (h.own.modes.mapping.0, h.own.modes.mapping.1) h.own.modes.mapped_to;
            plain_acks = h.own.modes.plain_acks;
            own_key = h.own.modes.own_key;
            peer_key = h.own.modes.peer_key;
            clear = h.own.modes.clear;
            capable = h.own.modes.capable;
            ready = h.own.modes.ready;
            cleared = h.own.modes.cleared;
            both = h.own.modes.both;
            shown = shown;
          };
          timer = h.own.timer;
          notices = h.own.notices;
        }
