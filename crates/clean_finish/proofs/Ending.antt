-- The end that sends an acknowledgement with its DATA_FIN.
use Rattle.clean_finish.proofs.Words.{◌≡◌, refl, sym, subst, ap, ◌∙◌, ℕ, ◌+◌, ◌≤◌, min, max, Bool, false, Option, List, length, arith, All-weaker, Side, A, Due}
use Rattle.clean_finish.proofs.Words.{Occasion, Duty, pick, Profile, PathEnd, with_data_fin_sent, having_sent, Setting, Lane, Hand, EndIs, HeardIs, IsGranted}
use Rattle.clean_finish.proofs.Words.{last_told, row_seen, brings_still, IsToldEdge, Sent, Keys, octets_of, said, data_fin_of, Facing, Half}
use Rattle.clean_finish.proofs.AckNew.{records_same}
use Rattle.clean_finish.proofs.Sendings.{out_after as sent_after, back_after as said_after}
use Rattle.clean_finish.proofs.Spans.{spans_for}

module _ {s : Side} {keys : Keys} {k j : Setting} {c : Profile} {begun begun_back : Lane} {m n : Half} {clock until : ℕ} {es : List Duty}
    (h : Facing s keys k j c begun begun_back m n clock until es) (x : Sent) (shut : Bool)
  where
    abbrev out_after : Lane
    out_after = sent_after h x shut

    abbrev back_after : Lane
    back_after = said_after h x shut

    abbrev pub end_after : PathEnd
    end_after = record (having_sent Occasion.Ack clock (said c keys s x) m.end) { sending = with_data_fin_sent m.end.sending }

    module _ (hand : Option Hand) (still : brings_still h.hand ≡ false) (nothing_waits : h.waiting ≡ 0) (some : 1 ≤ h.out.control_sent) (same_shut : shut ≡ h.out.shut)
        (low : x.low ≡ h.out.granted) (none : length (octets_of x.brings) ≡ 0) (one : data_fin_of x.brings ≡ 1) (unsent : h.out.data_fin_sent ≡ 0) (clear : 1 ≤ h.out.clear)
        (control : max h.out.control_sent x.control ≡ h.out.control_sent) (shown : max h.out.keys_sent x.keys ≤ pick s h.out.ready 0)
        (told : IsToldEdge s j false back_after.receiver end_after.receiving.told_edge) (least : j.least ≤ x.telling.edge + 31)
        (full : s ≡ A → h.out.clear ≡ 0 → (h.back.received ≡ 0) × (h.back.data_fin_came ≡ 0)
        × (1 ≤ out_after.keys_sent → j.buffer ≤ end_after.receiving.told_edge + 31))
        (row : m.end.tcp.congestion.duplicates ≤ row_seen h.out.sender hand) (heard : HeardIs s k.total (last_told h.out.heard hand) m.end.tcp)
      where
        same_granted : x.low + length (octets_of x.brings) ≡ h.out.granted
        same_granted = plus low none
          where
            plus : {a b g : ℕ} → a ≡ g → b ≡ 0 → a + b ≡ g
            plus is zero_is = omega (arith, is, zero_is)

        one_fin : max h.out.data_fin_sent (data_fin_of x.brings) ≡ 1
        one_fin = sum unsent one
          where
            sum : {a b : ℕ} → a ≡ 0 → b ≡ 1 → max a b ≡ 1
            sum p q = omega (arith, p, q)

        fin_clear : {b : ℕ} → h.out.data_fin_sent ≤ b → 1 ≤ b → max h.out.data_fin_sent (data_fin_of x.brings) ≤ b
        fin_clear less some_clear = up one less some_clear
          where
            up : {a b d : ℕ} → d ≡ 1 → a ≤ b → 1 ≤ b → max a d ≤ b
            up is p q = omega (arith, is, p, q)

        fin_some : (a : ℕ) → 1 ≤ max a (data_fin_of x.brings)
        fin_some a = up one
          where
            up : {d : ℕ} → d ≡ 1 → 1 ≤ max a d
            up is = omega (arith, is)

        said_more : {a b : ℕ} (d : ℕ) → a ≤ b → max a d ≤ max b d
        said_more d less = omega (arith, less)

        within : {to granted later waiting : ℕ} → later ≡ granted → waiting ≡ 0 → to ≤ granted + waiting → to ≤ later + 0
        within is zero_is less = omega (arith, is, zero_is, less)

        bytes_some : {granted later : ℕ} (waiting : ℕ) → later ≡ granted → 1 ≤ later + 0 → 1 ≤ granted + waiting
        bytes_some waiting is less = omega (arith, is, less)

        pub own_ended : EndIs s keys k j out_after.sender back_after.receiver hand false 0 end_after
        own_ended = record {
          subflow = record {
            phase = h.own.subflow.phase;
            opens = h.own.subflow.opens;
            records = records_same k h.out.sender out_after.sender h.waiting m.end.tcp end_after.tcp h.own.subflow.records nothing_waits some refl same_granted control;
            ahead = record {
              bytes = h.own.subflow.ahead.bytes;
              opened = h.own.subflow.ahead.opened;
              finished = h.own.subflow.ahead.finished;
              seen = h.own.subflow.ahead.seen;
            };
            congestion = record {
              window = h.own.subflow.congestion.window;
              most = h.own.subflow.congestion.most;
              steady = h.own.subflow.congestion.steady;
              row = row;
            };
            come = record { edge = h.own.subflow.come.edge; window = h.own.subflow.come.window };
            heard = record { told = heard.told; most = heard.most; end = heard.end; few = heard.few; some = heard.some };
            quiet = h.own.subflow.quiet;
            begun = λ is. subst (λ (n : ℕ). min 1 n ≤ h.back.control_came) (sym control) (h.own.subflow.begun is);
            keyed = λ is one b. h.own.subflow.keyed is one still;
            long = h.own.subflow.long;
            due = ap (λ (d : Due). record d { ack = false }) h.own.subflow.due;
          };
          sending = record {
            heard = h.own.sending.heard;
            known = h.own.sending.known;
            data_fin = one_fin;
            acked = h.own.sending.acked;
            came = h.own.sending.came;
            shut = (λ e. h.own.sending.shut.0 nothing_waits ∙ sym same_shut, λ some. absurd (omega (arith, some)));
            granted = All-weaker (IsGranted h.out.sender h.waiting) (IsGranted out_after.sender 0)
                (λ span is. record { waits = is.waits; within = within same_granted nothing_waits is.within }) m.end.sending.granted h.own.sending.granted;
            spans = spans_for m.end.sending.granted h.out.acked h.out.granted h.waiting out_after.granted same_granted nothing_waits h.own.sending.spans;
            bytes = λ one. h.own.sending.bytes (bytes_some h.waiting same_granted one);
            end = fin_clear h.own.sending.end clear;
            acked_end = λ more. fin_some h.out.data_fin_sent;
            finish = λ two. h.own.sending.finish (subst (λ (n : ℕ). 2 ≤ n) control two);
          };
          receiving = record {
            next = h.own.receiving.next;
            limit = h.own.receiving.limit;
            told = told;
            least = λ one. least;
            unmapped = h.own.receiving.unmapped;
            fin_told = h.own.receiving.fin_told;
            said = said_more (data_fin_of x.brings) h.own.receiving.said;
            unended = h.own.receiving.unended;
            unheard = full;
          };
          modes = record {
            mode = h.own.modes.mode;
            standby = h.own.modes.standby;
            mapping = h.own.modes.mapping;
            owes_third = h.own.modes.owes_third;
            owes_mapping = h.own.modes.owes_mapping;
            mapped_to = rw (h.own.modes.mapping.0, h.own.modes.mapping.1) h.own.modes.mapped_to;
            plain_acks = h.own.modes.plain_acks;
            own_key = h.own.modes.own_key;
            peer_key = h.own.modes.peer_key;
            clear = h.own.modes.clear;
            capable = h.own.modes.capable;
            ready = h.own.modes.ready;
            cleared = h.own.modes.cleared;
            both = h.own.modes.both;
            shown = shown;
          };
          timer = h.own.timer;
          notices = h.own.notices;
        }
