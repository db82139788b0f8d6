-- The end that sends the bytes of a grant.
use Rattle.clean_finish.proofs.Words.{◌≡◌, refl, sym, subst, ap, ◌∙◌, ℕ, ◌+◌, ◌-◌, ◌≤◌, min, max, nat_lt, Bool, true, false, None, List, [], ◌∷◌, length, arith}
use Rattle.clean_finish.proofs.Words.{All-weaker, Side, A, Record, is_unsent, nothing_due, Occasion, Duty, pick, Profile, PathEnd, having_sent, Setting, Lane}
use Rattle.clean_finish.proofs.Words.{EndIs, HeardIs, IsGranted, last_told, row_seen, brings_still, IsToldEdge, Sent, Keys, octets_of, said, data_fin_of}
use Rattle.clean_finish.proofs.Words.{Facing, Half}
use Rattle.clean_finish.proofs.Sendings.{out_after as sent_after, back_after as said_after}
use Rattle.clean_finish.proofs.Sent.{sent_all}
use Rattle.clean_finish.proofs.Spans.{spans_moved}

module _ {s : Side} {keys : Keys} {k j : Setting} {c : Profile} {begun begun_back : Lane} {m n : Half} {clock until : ℕ} {es : List Duty}
    (h : Facing s keys k j c begun begun_back m n clock until es) (x : Sent)
  where
    abbrev out_after : Lane
    out_after = sent_after h x false

    abbrev back_after : Lane
    back_after = said_after h x false

    abbrev pub end_after : PathEnd
    end_after = having_sent Occasion.Unsent clock (said c keys s x) m.end

    module _ (still : brings_still h.hand ≡ false) (unowed : h.owes ≡ false) (r : Record) (rest : h.own.subflow.records.rest ≡ r ∷ []) (unsent : is_unsent r ≡ true)
        (some : 1 ≤ h.waiting) (bytes : x.low + length (octets_of x.brings) ≡ h.out.granted + h.waiting) (none_fin : data_fin_of x.brings ≡ 0)
        (one : h.out.control_sent ≡ 1) (control : x.control ≡ 1) (shown : max h.out.keys_sent x.keys ≤ pick s h.out.ready 0)
        (told : IsToldEdge s j false back_after.receiver end_after.receiving.told_edge) (least : j.least ≤ x.telling.edge + 31)
        (full : s ≡ A → h.out.clear ≡ 0 → (h.back.received ≡ 0) × (h.back.data_fin_came ≡ 0)
        × (1 ≤ out_after.keys_sent → j.buffer ≤ end_after.receiving.told_edge + 31))
        (row : m.end.tcp.congestion.duplicates ≤ row_seen h.out.sender None) (heard : HeardIs s k.total (last_told h.out.heard None) m.end.tcp)
      where
        one_sent : max h.out.control_sent x.control ≡ 1
        one_sent = sum one control
          where
            sum : {a b : ℕ} → a ≡ 1 → b ≡ 1 → max a b ≡ 1
            sum p q = omega (arith, p, q)

        max_none : {a b : ℕ} → b ≡ 0 → max a b ≡ a
        max_none is = omega (arith, is)

        said_on : {a b d : ℕ} → d ≡ 0 → a ≤ b → max a d ≤ max b d
        said_on is less = omega (arith, is, less)

        within : {to sum later : ℕ} → later ≡ sum → to ≤ sum → to ≤ later + 0
        within is less = omega (arith, is, less)

        bytes_some : {waiting : ℕ} (granted : ℕ) → 1 ≤ waiting → 1 ≤ granted + waiting
        bytes_some granted less = omega (arith, less)

        not_two : {a : ℕ} → a ≡ 1 → 2 ≤ a → ⊥
        not_two p q = absurd (omega (arith, p, q))

        at_least : {a : ℕ} → a ≡ 1 → 1 ≤ a
        at_least p = omega (arith, p)

        at_most : {a : ℕ} → a ≡ 1 → a ≤ 2
        at_most p = omega (arith, p)

        next_is : {nxt d g' d' : ℕ} (g w : ℕ) → nxt ≡ 1 + g + w + (d - 1) → d ≡ 1 → g' ≡ g + w → d' ≡ 1 → nxt ≡ 1 + g' + 0 + (d' - 1)
        next_is g w at a b x = omega (arith, at, a, b, x)

        fin_is : {a b : ℕ} → a ≡ 1 → b ≡ 1 → nat_lt 1 a ≡ nat_lt 1 b
        fin_is p q = rw (p, q) refl

        pub own_brought : EndIs s keys k j out_after.sender back_after.receiver None false 0 end_after
        own_brought = record {
          subflow = record {
            phase = h.own.subflow.phase;
            opens = h.own.subflow.opens;
            records = sent_all k h.out.sender out_after.sender h.waiting clock m.end.tcp h.own.subflow.records r rest unsent (at_least one_sent) (at_most one_sent)
                (next_is h.out.granted h.waiting h.own.subflow.records.next one bytes one_sent) (h.own.subflow.records.finished ∙ fin_is one one_sent);
            ahead = record {
              bytes = h.own.subflow.ahead.bytes;
              opened = h.own.subflow.ahead.opened;
              finished = h.own.subflow.ahead.finished;
              seen = h.own.subflow.ahead.seen;
            };
            congestion = record {
              window = h.own.subflow.congestion.window;
              most = h.own.subflow.congestion.most;
              steady = h.own.subflow.congestion.steady;
              row = row;
            };
            come = record { edge = h.own.subflow.come.edge; window = h.own.subflow.come.window };
            heard = record { told = heard.told; most = heard.most; end = heard.end; few = heard.few; some = heard.some };
            quiet = h.own.subflow.quiet;
            begun = λ is. subst (λ (n : ℕ). min 1 n ≤ h.back.control_came) (one ∙ sym one_sent) (h.own.subflow.begun is);
            keyed = λ is more b. h.own.subflow.keyed is more still;
            long = h.own.subflow.long;
            due = h.own.subflow.due ∙ ap (λ (b : Bool). record nothing_due { ack = b }) unowed;
          };
          sending = record {
            heard = h.own.sending.heard;
            known = h.own.sending.known;
            data_fin = max_none none_fin ∙ h.own.sending.data_fin;
            acked = h.own.sending.acked;
            came = h.own.sending.came;
            shut = (λ e. h.own.sending.shut.1 some, λ more. absurd (omega (arith, more)));
            granted = All-weaker (IsGranted h.out.sender h.waiting) (IsGranted out_after.sender 0)
                (λ span is. record { waits = is.waits; within = within bytes is.within }) m.end.sending.granted h.own.sending.granted;
            spans = spans_moved m.end.sending.granted h.out.acked (h.out.granted + h.waiting) out_after.granted bytes h.own.sending.spans;
            bytes = λ more. h.own.sending.bytes (bytes_some h.out.granted some);
            end = subst (λ (n : ℕ). n ≤ h.out.clear) (sym (max_none none_fin)) h.own.sending.end;
            acked_end = λ more. subst (λ (n : ℕ). 1 ≤ n) (sym (max_none none_fin)) (h.own.sending.acked_end more);
            finish = λ two. absurd (not_two one_sent two);
          };
          receiving = record {
            next = h.own.receiving.next;
            limit = h.own.receiving.limit;
            told = told;
            least = λ more. least;
            unmapped = h.own.receiving.unmapped;
            fin_told = h.own.receiving.fin_told;
            said = said_on none_fin h.own.receiving.said;
            unended = h.own.receiving.unended;
            unheard = full;
          };
          modes = record {
            mode = h.own.modes.mode;
            standby = h.own.modes.standby;
            mapping = h.own.modes.mapping;
            owes_third = h.own.modes.owes_third;
            owes_mapping = h.own.modes.owes_mapping;
            mapped_to = rw (h.own.modes.mapping.0, h.own.modes.mapping.1) h.own.modes.mapped_to;
            plain_acks = h.own.modes.plain_acks;
            own_key = h.own.modes.own_key;
            peer_key = h.own.modes.peer_key;
            clear = h.own.modes.clear;
            capable = h.own.modes.capable;
            ready = h.own.modes.ready;
            cleared = h.own.modes.cleared;
            both = h.own.modes.both;
            shown = shown;
          };
          timer = h.own.timer;
          notices = h.own.notices;
        }
