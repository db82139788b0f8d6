-- The end that sends an acknowledgement, whatever that shows beside.
use Rattle.clean_finish.proofs.Words.{◌≡◌, refl, sym, subst, ap, ◌∙◌, ℕ, ◌+◌, ◌≤◌, min, max, Bool, false, Option, List, length, arith, All-weaker, Side, A, Due}
use Rattle.clean_finish.proofs.Words.{Occasion, Duty, pick, Profile, PathEnd, having_sent, Setting, Lane, Hand, EndIs, HeardIs, IsGranted, last_told, row_seen}
use Rattle.clean_finish.proofs.Words.{brings_still, IsToldEdge, Sent, Keys, octets_of, said, data_fin_of, Facing, Half}
use Rattle.clean_finish.proofs.AckNew.{records_same}
use Rattle.clean_finish.proofs.Sendings.{out_after as sent_after, back_after as said_after}
use Rattle.clean_finish.proofs.Spans.{spans_for}

module _ {s : Side} {keys : Keys} {k j : Setting} {c : Profile} {begun begun_back : Lane} {m n : Half} {clock until : ℕ} {es : List Duty}
    (h : Facing s keys k j c begun begun_back m n clock until es) (x : Sent) (shut : Bool)
  where
    abbrev out_after : Lane
    out_after = sent_after h x shut

    abbrev back_after : Lane
    back_after = said_after h x shut

    abbrev pub end_after : PathEnd
    end_after = having_sent Occasion.Ack clock (said c keys s x) m.end

    -- the segment has no bytes and no DATA_FIN
    module _ (hand : Option Hand) (still : brings_still h.hand ≡ false) (nothing_waits : h.waiting ≡ 0) (some : 1 ≤ h.out.control_sent) (same_shut : shut ≡ h.out.shut)
        (low : x.low ≡ h.out.granted) (none : length (octets_of x.brings) ≡ 0) (none_fin : data_fin_of x.brings ≡ 0)
        (control : max h.out.control_sent x.control ≡ h.out.control_sent) (shown : max h.out.keys_sent x.keys ≤ pick s h.out.ready 0)
        (told : IsToldEdge s j false back_after.receiver end_after.receiving.told_edge) (least : j.least ≤ x.telling.edge + 31)
        (full : s ≡ A → h.out.clear ≡ 0 → (h.back.received ≡ 0) × (h.back.data_fin_came ≡ 0)
        × (1 ≤ out_after.keys_sent → j.buffer ≤ end_after.receiving.told_edge + 31))
        (row : m.end.tcp.congestion.duplicates ≤ row_seen h.out.sender hand) (heard : HeardIs s k.total (last_told h.out.heard hand) m.end.tcp)
      where
        same_granted : x.low + length (octets_of x.brings) ≡ h.out.granted
        same_granted = plus low none
          where
            plus : {a b g : ℕ} → a ≡ g → b ≡ 0 → a + b ≡ g
            plus is zero_is = omega (arith, is, zero_is)

        max_none : {a b : ℕ} → b ≡ 0 → max a b ≡ a
        max_none is = omega (arith, is)

        said_on : {a b d : ℕ} → d ≡ 0 → a ≤ b → max a d ≤ max b d
        said_on is less = omega (arith, is, less)

        within : {to granted later waiting : ℕ} → later ≡ granted → waiting ≡ 0 → to ≤ granted + waiting → to ≤ later + 0
        within is zero_is less = omega (arith, is, zero_is, less)

        bytes_some : {granted later : ℕ} (waiting : ℕ) → later ≡ granted → 1 ≤ later + 0 → 1 ≤ granted + waiting
        bytes_some waiting is less = omega (arith, is, less)

        pub own_said : EndIs s keys k j out_after.sender back_after.receiver hand false 0 end_after
        own_said = record {
          subflow = record {
            phase = h.own.subflow.phase;
            opens = h.own.subflow.opens;
            records = records_same k h.out.sender out_after.sender h.waiting m.end.tcp end_after.tcp h.own.subflow.records nothing_waits some refl same_granted control;
            ahead = record {
              bytes = h.own.subflow.ahead.bytes;
              opened = h.own.subflow.ahead.opened;
              finished = h.own.subflow.ahead.finished;
              seen = h.own.subflow.ahead.seen;
            };
            congestion = record {
              window = h.own.subflow.congestion.window;
              most = h.own.subflow.congestion.most;
              steady = h.own.subflow.congestion.steady;
              row = row;
            };
            come = record { edge = h.own.subflow.come.edge; window = h.own.subflow.come.window };
            heard = record { told = heard.told; most = heard.most; end = heard.end; few = heard.few; some = heard.some };
            quiet = h.own.subflow.quiet;
            begun = λ is. subst (λ (n : ℕ). min 1 n ≤ h.back.control_came) (sym control) (h.own.subflow.begun is);
            keyed = λ is one b. h.own.subflow.keyed is one still;
            long = h.own.subflow.long;
            due = ap (λ (d : Due). record d { ack = false }) h.own.subflow.due;
          };
          sending = record {
            heard = h.own.sending.heard;
            known = h.own.sending.known;
            data_fin = max_none none_fin ∙ h.own.sending.data_fin;
            acked = h.own.sending.acked;
            came = h.own.sending.came;
            shut = (λ e. h.own.sending.shut.0 nothing_waits ∙ sym same_shut, λ some. absurd (omega (arith, some)));
            granted = All-weaker (IsGranted h.out.sender h.waiting) (IsGranted out_after.sender 0)
                (λ span is. record { waits = is.waits; within = within same_granted nothing_waits is.within }) m.end.sending.granted h.own.sending.granted;
            spans = spans_for m.end.sending.granted h.out.acked h.out.granted h.waiting out_after.granted same_granted nothing_waits h.own.sending.spans;
            bytes = λ one. h.own.sending.bytes (bytes_some h.waiting same_granted one);
            end = subst (λ (n : ℕ). n ≤ h.out.clear) (sym (max_none none_fin)) h.own.sending.end;
            acked_end = λ more. subst (λ (n : ℕ). 1 ≤ n) (sym (max_none none_fin)) (h.own.sending.acked_end more);
            finish = λ two. h.own.sending.finish (subst (λ (n : ℕ). 2 ≤ n) control two);
          };
          receiving = record {
            next = h.own.receiving.next;
            limit = h.own.receiving.limit;
            told = told;
            least = λ one. least;
            unmapped = h.own.receiving.unmapped;
            fin_told = h.own.receiving.fin_told;
            said = said_on none_fin h.own.receiving.said;
            unended = h.own.receiving.unended;
            unheard = full;
          };
          modes = record {
            mode = h.own.modes.mode;
            standby = h.own.modes.standby;
            mapping = h.own.modes.mapping;
            owes_third = h.own.modes.owes_third;
            owes_mapping = h.own.modes.owes_mapping;
            mapped_to = rw (h.own.modes.mapping.0, h.own.modes.mapping.1) h.own.modes.mapped_to;
            plain_acks = h.own.modes.plain_acks;
            own_key = h.own.modes.own_key;
            peer_key = h.own.modes.peer_key;
            clear = h.own.modes.clear;
            capable = h.own.modes.capable;
            ready = h.own.modes.ready;
            cleared = h.own.modes.cleared;
            both = h.own.modes.both;
            shown = shown;
          };
          timer = h.own.timer;
          notices = h.own.notices;
        }
