-- What a SYN tells is heard: a window, and whether it acknowledges the own SYN.
use Rattle.clean_finish.proofs.Words.{◌≡◌, sym, subst, ap, ◌∙◌, ℕ, ◌+◌, ◌-◌, ◌<◌, ◌≤◌, min, max, nat_lt, Bool, true, false, cond, Option, None, List, ◌∷◌}
use Rattle.clean_finish.proofs.Words.{arith, le-ltb, All-weaker, Side, Record, Duty, Profile, Setting, Lane, Hand, EndIs, HeardIs, IsGranted, last_told}
use Rattle.clean_finish.proofs.Words.{row_seen, brings_still, Waits, AreSpans, WaitsSyn, WaitsNone, WaitsBytes, Sent, Keys, Facing, Half}
use Rattle.clean_finish.proofs.Acknowledged.{out_after as acknowledged}
use Rattle.clean_finish.proofs.Dropping.{is_waited}
use Rattle.clean_finish.proofs.Hands.{in_hand}
use Rattle.clean_finish.proofs.Raised.{Emits}

module _ {s : Side} {keys : Keys} {k j : Setting} {c : Profile} {begun begun_back : Lane} {m n : Half} {clock until : ℕ} {d : Duty} {ds : List Duty}
    (h : Facing s keys k j c begun begun_back m n clock until (d ∷ ds)) (free : is_waited d ≡ false) (there : Emits s ds)
    (x : Sent) (brings : Bool) (hand : h.hand ≡ in_hand x brings true)
    (next : x.telling.next ≡ 0) (dss : x.telling.dss ≡ 0) (few : x.telling.seen ≤ 1) (low : x.telling.seen ≤ m.end.tcp.send.una)
  where
    abbrev pub out_after : Lane
    out_after = acknowledged h free there x brings hand

    max_none : {y z : ℕ} → z ≡ 0 → max y z ≡ y
    max_none is = omega (arith, is)

    same_acked : max h.out.acked x.telling.next ≡ h.out.acked
    same_acked = max_none next

    same_clear : max h.out.clear x.telling.dss ≡ h.out.clear
    same_clear = max_none dss

    same_timer : cond (nat_lt h.out.acked x.telling.next) None h.out.timer ≡ h.out.timer
    same_timer = ap (λ (b : Bool). cond b None h.out.timer) (le-ltb h.out.acked x.telling.next (none next))
      where
        none : {y z : ℕ} → z ≡ 0 → z ≤ y
        none is = omega (arith, is)

    told_seen : (a b : ℕ) → b ≤ max a b
    told_seen a b = omega arith

    opened_on : {seen una : ℕ} (ca : ℕ) → seen ≤ 1 → seen ≤ una → min 1 ca ≤ una → min 1 (max ca seen) ≤ una
    opened_on ca a b e = omega (arith, a, b, e)

    two_before : {ca seen : ℕ} → seen ≤ 1 → max ca seen ≡ 2 → ca ≡ 2
    two_before a e = omega (arith, a, e)

    waits_on : {rest : List Record} {waiting : ℕ} → Waits k h.out.sender rest waiting → Waits k out_after.sender rest waiting
    waits_on (WaitsSyn unsent) = WaitsSyn unsent
    waits_on (WaitsNone sent) = WaitsNone sent
    waits_on (WaitsBytes sent r kind pos unsent some most edge) = WaitsBytes sent r kind pos unsent some most (up h.out.edge x.telling.edge edge)
      where
        up : {y : ℕ} (z w : ℕ) → y ≤ z → y ≤ max z w
        up z w less = omega (arith, less)

    pub told_own : EndIs s keys k j out_after.sender h.back.receiver (in_hand x brings false) h.owes h.waiting m.end
    told_own = record {
      subflow = record {
        phase = h.own.subflow.phase;
        opens = h.own.subflow.opens;
        records = record {
          sent = h.own.subflow.records.sent;
          rest = h.own.subflow.records.rest;
          all = h.own.subflow.records.all;
          gone = h.own.subflow.records.gone;
          waits = waits_on h.own.subflow.records.waits;
          pieces = h.own.subflow.records.pieces;
          tile = h.own.subflow.records.tile;
          next = h.own.subflow.records.next;
          finished = h.own.subflow.records.finished;
          control = h.own.subflow.records.control;
          fits = h.own.subflow.records.fits;
        };
        ahead = record {
          bytes = subst (λ (n : ℕ). min n k.total ≤ m.end.tcp.send.una - 1) (sym same_acked) h.own.subflow.ahead.bytes;
          opened = opened_on h.out.control_acked few low h.own.subflow.ahead.opened;
          finished = λ e. h.own.subflow.ahead.finished (two_before few e);
          seen = told_seen h.out.control_acked x.telling.seen;
        };
        congestion = record {
          window = h.own.subflow.congestion.window;
          most = h.own.subflow.congestion.most;
          steady = h.own.subflow.congestion.steady;
          row = subst (λ (o : Option Hand). m.end.tcp.congestion.duplicates ≤ row_seen h.out.sender o) hand h.own.subflow.congestion.row;
        };
        come = record { edge = h.own.subflow.come.edge; window = h.own.subflow.come.window };
        heard = subst (λ (o : Option Hand). HeardIs s k.total (last_told h.out.heard o) m.end.tcp) hand h.own.subflow.heard;
        quiet = h.own.subflow.quiet;
        begun = h.own.subflow.begun;
        keyed = λ is one still. h.own.subflow.keyed is one (ap brings_still hand ∙ still);
        long = h.own.subflow.long;
        due = h.own.subflow.due;
      };
      sending = record {
        heard = h.own.sending.heard ∙ sym same_acked;
        known = h.own.sending.known;
        data_fin = h.own.sending.data_fin;
        acked = h.own.sending.acked ∙ ap (λ (n : ℕ). nat_lt k.total n) (sym same_acked);
        came = h.own.sending.came;
        shut = h.own.sending.shut;
        granted = All-weaker (IsGranted h.out.sender h.waiting) (IsGranted out_after.sender h.waiting)
            (λ span is. record { waits = subst (λ (n : ℕ). n < span.to) (sym same_acked) is.waits; within = is.within }) m.end.sending.granted h.own.sending.granted;
        spans = subst (λ (n : ℕ). AreSpans n (h.out.granted + h.waiting) m.end.sending.granted) (sym same_acked) h.own.sending.spans;
        bytes = h.own.sending.bytes;
        end = subst (λ (n : ℕ). h.out.data_fin_sent ≤ n) (sym same_clear) h.own.sending.end;
        acked_end = λ more. h.own.sending.acked_end (subst (λ (n : ℕ). k.total < n) same_acked more);
        finish = λ two. subst (λ (n : ℕ). k.total < n) (sym same_acked) (h.own.sending.finish two);
      };
      receiving = record {
        next = h.own.receiving.next;
        limit = h.own.receiving.limit;
        told = h.own.receiving.told;
        least = h.own.receiving.least;
        unmapped = h.own.receiving.unmapped;
        fin_told = h.own.receiving.fin_told;
        said = h.own.receiving.said;
        unended = λ is clear. h.own.receiving.unended is (sym same_clear ∙ clear);
        unheard = λ is clear. h.own.receiving.unheard is (sym same_clear ∙ clear);
      };
      modes = record {
        mode = h.own.modes.mode;
        standby = h.own.modes.standby;
        mapping = h.own.modes.mapping;
        owes_third = h.own.modes.owes_third;
        owes_mapping = h.own.modes.owes_mapping;
        mapped_to = h.own.modes.mapped_to;
        plain_acks = h.own.modes.plain_acks;
        own_key = h.own.modes.own_key;
        peer_key = h.own.modes.peer_key;
        clear = same_clear ∙ h.own.modes.clear;
        capable = h.own.modes.capable;
        ready = h.own.modes.ready;
        cleared = subst (λ (n : ℕ). n ≤ h.out.ready) (sym same_clear) h.own.modes.cleared;
        both = λ is. ((h.own.modes.both is).0 ∙ sym same_clear, (h.own.modes.both is).1);
        shown = h.own.modes.shown;
      };
      timer = same_timer ∙ h.own.timer;
      notices = h.own.notices;
    }
