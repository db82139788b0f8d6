-- The timer is settled: it runs for a reason of the lane.
use Rattle.clean_finish.proofs.Words.{◌≡◌, refl, sym, subst, ap, ◌∙◌, ℕ, ◌+◌, ◌-◌, ◌<◌, ◌≤◌, min, Bool, true, false, cond, not, ◌&&◌, ◌||◌, ◌⊎◌, inl, inr}
use Rattle.clean_finish.proofs.Words.{⊎_elim, Option, None, List, [], ◌∷◌, map, All, arith, Some, both_ways, cases_lt, and_parts, ltb-false, All-head}
use Rattle.clean_finish.proofs.Words.{All-weaker, Side, A, peer, same_side, Record, Tile, span_of, timer_settled, State, has_records, is_some_record}
use Rattle.clean_finish.proofs.Words.{is_closed_to_segments, one_if, GrantedPiece, is_all_acknowledged, Duty, SendDuty, SilentDuty, Profile, PathEnd}
use Rattle.clean_finish.proofs.Words.{is_data_fin_owed, sends_plainly, with_timer_settled, Setting, Lane, all_left, Sender, Going, Reason, lane_settles, tick_or}
use Rattle.clean_finish.proofs.Words.{settled_by, seen_timer, IsLong, EndIs, IsGranted, IsPhase, Waits, WaitsSyn, WaitsNone, WaitsBytes, Keys, IsSetting}
use Rattle.clean_finish.proofs.Words.{Facing, Half, HasNotBegun, any_duty, is_syn, Opening, Listening, HalfOpen, Open}
use Rattle.subflow_send.specs.Records.{Follow}
use Rattle.subflow_tcp.specs.Expiring.{is_timed}
use Rattle.path_core.specs.DataFin.{is_waiting}
use Rattle.clean_finish.proofs.Dropping.{differ, IsApart, stage_drops, settles_drop, begun_drops}
use Rattle.clean_finish.proofs.Machine.{settles_as_a_lane}
use Rattle.clean_finish.proofs.Passing.{stands_then, peer_is_other}
use Rattle.clean_finish.proofs.Quiet.{now_out, none_found}

follow_up : (from to : ℕ) (rs : List Record) → Follow from to (map span_of rs) → from ≤ to
follow_up from to [] f = omega (arith, f)
follow_up from to (r ∷ rs) f = let rest = follow_up (span_of r).1 to rs f.2 in omega (arith, f.0, f.1, rest)

-- a record is there
some_ahead : (una nxt : ℕ) (rs : List Record) → is_some_record rs ≡ true → Tile una nxt (map span_of rs) → una < nxt
some_ahead una nxt [] some tile = absurd (both_ways _ refl some)
some_ahead una nxt (r ∷ rs) some tile = let rest = follow_up (span_of r).1 nxt rs tile.2 in omega (arith, tile.1, rest)

some_span : (out : Sender) (waiting : ℕ) (spans : List GrantedPiece) → not (is_all_acknowledged spans) ≡ true → All (IsGranted out waiting) spans
    → out.acked < out.granted + waiting
some_span out waiting [] some all = absurd (both_ways _ refl some)
some_span out waiting (span ∷ spans) some all =
    let is = All-head (IsGranted out waiting) span spans all in omega (arith, is)

not_true : (b : Bool) → not b ≡ true → b ≡ false
not_true false e = refl
not_true true e = absurd (both_ways _ refl e)

abbrev side_of : Duty → Side
side_of (Duty.Silent (SilentDuty.Timer q)) = q
side_of _ = A

pub same_timer : {p q : Side} → Duty.Silent (SilentDuty.Timer p) ≡ Duty.Silent (SilentDuty.Timer q) → p ≡ q
same_timer e = ap side_of e

-- bytes that aren't acknowledged
bytes_reason : (k : Setting) (w : Lane) → w.acked < k.total → 1 ≤ w.ready → Reason k w
bytes_reason k w few ready = inr (omega (arith, few), ready, omega (arith, few))

open_bytes : {acked total una next granted waiting control : ℕ} → min acked total ≤ una - 1 → una < next → 1 ≤ una
    → next ≡ 1 + granted + waiting + (control - 1) → waiting ≡ 0 → control ≡ 1 → granted ≤ total → (acked < total) × (1 ≤ granted)
open_bytes ahead less one next none sent few =
    (omega (arith, ahead, less, one, next, none, sent, few), omega (arith, ahead, less, one, next, none, sent, few))

spans_open : {acked granted waiting total : ℕ} → acked < granted + waiting → waiting ≡ 0 → granted ≤ total → (acked < total) × (1 ≤ granted)
spans_open low none few = (omega (arith, low, none, few), omega (arith, low, none, few))

shut_open : {acked total received granted written : ℕ} → min acked total ≤ received → received ≤ granted → granted < written → written ≤ total
    → acked < total
shut_open a b d e = omega (arith, a, b, d, e)

le_le : {x y z : ℕ} → x ≤ y → y ≤ z → x ≤ z
le_le a b = omega (arith, a, b)

less_of : {x : ℕ} (z : ℕ) → 1 ≤ x → 1 ≤ x + z
less_of z some = omega (arith, some)

module _ {s : Side} {keys : Keys} {k j : Setting} {c : Profile} {begun begun_back : Lane} {m n : Half} {clock until : ℕ} (ticks t u : ℕ)
    (k_is : IsSetting c ticks k) (j_is : IsSetting c ticks j)
    (going : Going k begun t all_left begun) (going_back : Going j begun_back u all_left begun_back)
  where
    module _ {ds : List Duty} (h : Facing s keys k j c begun begun_back m n clock until (Duty.Silent (SilentDuty.Timer s) ∷ ds))
        (nothing_waits : h.waiting ≡ 0) (answered : min 1 h.back.control_came ≤ h.out.control_sent)
        (no_syn : any_duty (is_syn s) ds ≡ false)
      where
        now : Going k begun t h.stage h.out
        now = now_out ticks t u k_is j_is going going_back h

        abbrev runs : Bool
        runs = is_timed (is_waiting m.end || (m.end.modes.owes_third || m.end.notices.fast_closed)) m.end.tcp

        -- the SYN was sent
        has_sent : is_closed_to_segments m.end.tcp.state ≡ false → 1 ≤ h.out.control_sent
        has_sent up = ⊎_elim (λ sent. sent)
            (λ unsent. absurd (⊎_elim (λ sent. sent_not sent unsent)
            (λ none. by h.back.control_came m.end.tcp.send.una m.end.tcp.send.finished m.end.tcp.state h.own.subflow.phase up
            (low_came answered unsent) none) h.begins))
            (cases_lt 0 h.out.control_sent)
          where
            sent_not : {x : ℕ} → 1 ≤ x → x ≤ 0 → ⊥
            sent_not a b = absurd (omega (arith, a, b))

            low_came : {came sent : ℕ} → min 1 came ≤ sent → sent ≤ 0 → came ≡ 0
            low_came a b = omega (arith, a, b)

            one_zero : {x : ℕ} → x ≡ 1 → x ≡ 0 → ⊥
            one_zero a b = absurd (omega (arith, a, b))

            some_zero : {x : ℕ} → 1 ≤ x → x ≡ 0 → ⊥
            some_zero a b = absurd (omega (arith, a, b))

            by : (came una : ℕ) (finished : Bool) (state : State) → IsPhase s came una finished state
                → is_closed_to_segments state ≡ false → came ≡ 0
                → HasNotBegun s j h.out.sender h.back.receiver m.end (Duty.Silent (SilentDuty.Timer s) ∷ ds) → ⊥
            by came una finished state (Opening side none low is) up zero_came not = ⊎_elim (λ e. absurd (differ refl e))
                (λ there. none_found (is_syn s) (Duty.Send (SendDuty.Syn A)) (ap (λ (q : Side). same_side q A) side) ds no_syn there) (not.syn side).1
            by came una finished state (Listening side none low is) up zero_came not = both_ways _ up (ap is_closed_to_segments is)
            by came una finished state (HalfOpen side one low is) up zero_came not = one_zero one zero_came
            by came una finished state (Open some high is) up zero_came not = some_zero some zero_came

        not_acked : h.out.control_sent ≤ h.out.control_acked → is_closed_to_segments m.end.tcp.state ≡ false
            → (is_data_fin_owed m.end ≡ true) ⊎ ((not (is_all_acknowledged m.end.sending.granted) ≡ true) ⊎ ((m.end.sending.shut ≡ true)
            ⊎ (has_records m.end.tcp ≡ true))) → Reason k h.out
        not_acked all up (inl owed) =
            let parts = and_parts (not (sends_plainly m.end.modes)) (m.end.sending.fin_sent && not m.end.sending.close.own_acked) owed in
            let both = and_parts m.end.sending.fin_sent (not m.end.sending.close.own_acked) parts.1 in
            let few = ltb-false k.total h.out.acked (sym h.own.sending.acked ∙ not_true m.end.sending.close.own_acked both.1) in
            let sent = h.own.sending.data_fin ∙ ap one_if both.0 in
            end_reason few sent h.own.sending.end h.own.modes.cleared
          where
            end_reason : h.out.acked ≤ k.total → h.out.data_fin_sent ≡ 1 → h.out.data_fin_sent ≤ h.out.clear → h.out.clear ≤ h.out.ready
                → Reason k h.out
            end_reason few sent low high = inr (omega (arith, few), omega (arith, sent, low, high), omega (arith, sent, low))
        not_acked all up (inr (inl some)) =
            let left = spans_open (some_span h.out.sender h.waiting m.end.sending.granted some h.own.sending.granted) nothing_waits
            (le_le now.numbers.granted now.numbers.written) in
            bytes_reason k h.out left.0 (h.own.sending.bytes (less_of h.waiting left.1))
        not_acked all up (inr (inr (inl shut))) =
            let is = now.shut (sym (h.own.sending.shut.0 nothing_waits) ∙ shut) in
            bytes_reason k h.out (shut_open now.numbers.acked now.numbers.received is.0 now.numbers.written) is.1
        not_acked all up (inr (inr (inr some))) =
            let less = some_ahead m.end.tcp.send.una m.end.tcp.send.nxt m.end.tcp.send.records some h.own.subflow.records.tile in
            ⊎_elim
            (λ two. absurd (equal_less (h.own.subflow.ahead.finished (two_is two (le_le now.numbers.control_acked now.numbers.control) h.own.subflow.records.control)) less))
            (λ one.
            let left = open_bytes h.own.subflow.ahead.bytes less (opened h.own.subflow.ahead.opened all (has_sent up)) h.own.subflow.records.next
            nothing_waits (one_is one all (has_sent up)) (le_le now.numbers.granted now.numbers.written) in
            bytes_reason k h.out left.0 (h.own.sending.bytes (less_of h.waiting left.1)))
            (cases_lt 1 h.out.control_acked)
          where
            equal_less : {x y : ℕ} → x ≡ y → x < y → ⊥
            equal_less a b = absurd (omega (arith, a, b))

            two_is : {acked sent : ℕ} → 1 < acked → acked ≤ sent → sent ≤ 2 → acked ≡ 2
            two_is a b d = omega (arith, a, b, d)

            one_is : {acked sent : ℕ} → acked ≤ 1 → sent ≤ acked → 1 ≤ sent → sent ≡ 1
            one_is a b d = omega (arith, a, b, d)

            opened : {acked una sent : ℕ} → min 1 acked ≤ una → sent ≤ acked → 1 ≤ sent → 1 ≤ una
            opened a b d = omega (arith, a, b, d)

        pub why : runs ≡ true → Reason k h.out
        why on =
            let parts = and_parts (not (is_closed_to_segments m.end.tcp.state)) _ on in
            let up = not_true (is_closed_to_segments m.end.tcp.state) parts.0 in
            ⊎_elim (λ less. inl less) (λ all. not_acked all up (which parts.1)) (cases_lt h.out.control_acked h.out.control_sent)
          where
            which : ((is_waiting m.end || (m.end.modes.owes_third || m.end.notices.fast_closed)) || has_records m.end.tcp) ≡ true → (is_data_fin_owed m.end ≡ true)
                ⊎ ((not (is_all_acknowledged m.end.sending.granted) ≡ true) ⊎ ((m.end.sending.shut ≡ true) ⊎ (has_records m.end.tcp ≡ true)))
            which some = by (is_data_fin_owed m.end) (not (is_all_acknowledged m.end.sending.granted)) m.end.sending.shut (m.end.modes.owes_third || m.end.notices.fast_closed)
                (has_records m.end.tcp) (neither m.end.modes.owes_third m.end.notices.fast_closed h.own.modes.owes_third h.own.notices.fast_closed) some
              where
                neither : (x y : Bool) → x ≡ false → y ≡ false → (x || y) ≡ false
                neither x y p q = rw (p, q) refl

                by : (a b d e f : Bool) → e ≡ false → (((a || (b || d)) || e) || f) ≡ true
                    → (a ≡ true) ⊎ ((b ≡ true) ⊎ ((d ≡ true) ⊎ (f ≡ true)))
                by true b d e f third some = inl refl
                by false true d e f third some = inr (inl refl)
                by false false true e f third some = inr (inr (inl refl))
                by false false false true f third some = absurd (both_ways _ third refl)
                by false false false false f third some = inr (inr (inr some))

        -- ---- what it leaves

        abbrev pub out_after : Lane
        out_after = settled_by runs m.end.tcp.timing.rtt.rto h.out

        abbrev pub end_after : PathEnd
        end_after = with_timer_settled clock m.end

        pub long_enough : IsLong m.end.tcp.timing → k.rto ≤ m.end.tcp.timing.rtt.rto
        long_enough long = short k_is.rto long
          where
            short : {x y : ℕ} → x ≡ 1000 → 1000 ≤ y → x ≤ y
            short a b = omega (arith, a, b)

        pub waits_after : Waits k h.out.sender h.own.subflow.records.rest h.waiting → Waits k out_after.sender h.own.subflow.records.rest h.waiting
        waits_after w = by h.own.subflow.records.rest h.waiting w
          where
            by : (rest : List Record) (waits : ℕ) → Waits k h.out.sender rest waits → Waits k out_after.sender rest waits
            by _ _ (WaitsSyn unsent) = WaitsSyn unsent
            by _ _ (WaitsNone sent) = WaitsNone sent
            by _ _ (WaitsBytes sent r kind pos unsent some most edge) = WaitsBytes sent r kind pos unsent some most edge

        pub others : IsApart s (peer s) (Duty.Silent (SilentDuty.Timer s))
        others = record {
          window = differ refl;
          update = differ refl;
          emit = differ refl;
          finish = differ refl;
          wait = differ refl;
          syn_ack = differ refl;
          acknowledge = differ refl;
          ask = differ refl;
        }

        pub others_back : IsApart (peer s) s (Duty.Silent (SilentDuty.Timer s))
        others_back = record {
          window = differ refl;
          update = differ refl;
          emit = differ refl;
          finish = differ refl;
          wait = differ refl;
          syn_ack = differ refl;
          acknowledge = differ refl;
          ask = differ refl;
        }

        pub begun_after : (1 ≤ h.out.control_sent) ⊎ HasNotBegun s j h.out.sender h.back.receiver m.end ds
            → (1 ≤ out_after.control_sent) ⊎ HasNotBegun s j out_after.sender h.back.receiver end_after ds
        begun_after (inl sent) = inl sent
        begun_after (inr none) = inr (record {
          ready = none.ready;
          received = none.received;
          data_fin = none.data_fin;
          keys = none.keys;
          told = none.told;
          next = none.next;
          window = none.window;
          syn = none.syn;
        })

        pub timer_is : out_after.timer ≡ end_after.tcp.timing.timer
        timer_is =
            subst (λ (o : Option ℕ). cond runs (Some (tick_or (h.out.clock + m.end.tcp.timing.rtt.rto) o)) None
            ≡ timer_settled runs m.end.sending.news clock m.end.tcp.timing) (sym h.own.timer)
            (subst (λ (x : ℕ). cond runs (Some (tick_or (x + m.end.tcp.timing.rtt.rto)
            (seen_timer (m.end.tcp.timing.news || m.end.sending.news) m.end.tcp.timing.timer))) None
            ≡ timer_settled runs m.end.sending.news clock m.end.tcp.timing) (sym h.now.0)
            (sym (settles_as_a_lane runs m.end.sending.news clock m.end.tcp.timing)))

        pub own_after : EndIs s keys k j out_after.sender h.back.receiver h.hand h.owes h.waiting end_after
        own_after = record {
          subflow = record {
            phase = h.own.subflow.phase;
            opens = h.own.subflow.opens;
            records = record {
              sent = h.own.subflow.records.sent;
              rest = h.own.subflow.records.rest;
              all = h.own.subflow.records.all;
              gone = h.own.subflow.records.gone;
              waits = waits_after h.own.subflow.records.waits;
              pieces = h.own.subflow.records.pieces;
              tile = h.own.subflow.records.tile;
              next = h.own.subflow.records.next;
              finished = h.own.subflow.records.finished;
              control = h.own.subflow.records.control;
              fits = h.own.subflow.records.fits;
            };
            ahead = record {
              bytes = h.own.subflow.ahead.bytes;
              opened = h.own.subflow.ahead.opened;
              finished = h.own.subflow.ahead.finished;
              seen = h.own.subflow.ahead.seen;
            };
            congestion = record {
              window = h.own.subflow.congestion.window;
              most = h.own.subflow.congestion.most;
              steady = h.own.subflow.congestion.steady;
              row = h.own.subflow.congestion.row;
            };
            come = record { edge = h.own.subflow.come.edge; window = h.own.subflow.come.window };
            heard = record {
              told = h.own.subflow.heard.told;
              most = h.own.subflow.heard.most;
              end = h.own.subflow.heard.end;
              few = h.own.subflow.heard.few;
              some = h.own.subflow.heard.some;
            };
            quiet = h.own.subflow.quiet;
            begun = h.own.subflow.begun;
            keyed = h.own.subflow.keyed;
            long = h.own.subflow.long;
            due = h.own.subflow.due;
          };
          sending = record {
            heard = h.own.sending.heard;
            known = h.own.sending.known;
            data_fin = h.own.sending.data_fin;
            acked = h.own.sending.acked;
            came = h.own.sending.came;
            shut = h.own.sending.shut;
            granted = All-weaker (IsGranted h.out.sender h.waiting) (IsGranted out_after.sender h.waiting)
                (λ span is. record { waits = is.waits; within = is.within }) m.end.sending.granted h.own.sending.granted;
            spans = h.own.sending.spans;
            bytes = h.own.sending.bytes;
            end = h.own.sending.end;
            acked_end = h.own.sending.acked_end;
            finish = h.own.sending.finish;
          };
          receiving = record {
            next = h.own.receiving.next;
            limit = h.own.receiving.limit;
            told = h.own.receiving.told;
            least = h.own.receiving.least;
            unmapped = h.own.receiving.unmapped;
            fin_told = h.own.receiving.fin_told;
            said = h.own.receiving.said;
            unended = h.own.receiving.unended;
            unheard = h.own.receiving.unheard;
          };
          modes = record {
            mode = h.own.modes.mode;
            standby = h.own.modes.standby;
            mapping = h.own.modes.mapping;
            owes_third = h.own.modes.owes_third;
            owes_mapping = h.own.modes.owes_mapping;
            mapped_to = h.own.modes.mapped_to;
            plain_acks = h.own.modes.plain_acks;
            own_key = h.own.modes.own_key;
            peer_key = h.own.modes.peer_key;
            clear = h.own.modes.clear;
            capable = h.own.modes.capable;
            ready = h.own.modes.ready;
            cleared = h.own.modes.cleared;
            both = h.own.modes.both;
            shown = h.own.modes.shown;
          };
          timer = timer_is;
          notices = h.own.notices;
        }

        abbrev pub settled_on : Facing s keys k j c begun begun_back (record m { end = end_after }) n clock until ds
        settled_on = record {
          out = out_after;
          back = h.back;
          stage = h.stage;
          stage_back = h.stage_back;
          going = stands_then h.going h.stage out_after (lane_settles runs m.end.tcp.timing.rtt.rto (long_enough h.own.subflow.long) why);
          going_back = h.going_back;
          now = h.now;
          now_back = h.now_back;
          hand = h.hand;
          hand_back = h.hand_back;
          owes = h.owes;
          owes_back = h.owes_back;
          waiting = h.waiting;
          waiting_back = h.waiting_back;
          own = own_after;
          other = h.other;
          way = record {
            sent = h.way.sent;
            flights = h.way.flights;
            datas_are = h.way.datas_are;
            acks_are = h.way.acks_are;
            follow = h.way.follow;
            low = h.way.low;
            control = h.way.control;
            keys_shown = h.way.keys_shown;
            rise = h.way.rise;
            passed = h.way.passed;
          };
          way_back = h.way_back;
          apps = record {
            writes = record { numbers = h.apps.writes.numbers; over = h.apps.writes.over };
            reads = record { numbers = h.apps.reads.numbers; received = h.apps.reads.received; over = h.apps.reads.over };
            receives = record {
              read = h.apps.receives.read;
              received = h.apps.receives.received;
              known = h.apps.receives.known;
              capacity = h.apps.receives.capacity;
            };
            book = record { edge = h.apps.book.edge; owner = h.apps.book.owner; marks = h.apps.book.marks; taken = h.apps.book.taken };
            room = h.apps.room;
            whole = h.apps.whole;
            fin = h.apps.fin;
          };
          apps_back = h.apps_back;
          stages = stage_drops s (peer s) (Duty.Silent (SilentDuty.Timer s)) ds n.end.treated.asked h.owes_back h.stage others h.stages;
          stages_back = stage_drops (peer s) s (Duty.Silent (SilentDuty.Timer s)) ds m.end.treated.asked h.owes h.stage_back others_back h.stages_back;
          control = h.control;
          control_back = h.control_back;
          turn = h.turn;
          turn_back = h.turn_back;
          settles = inl refl;
          settles_back = settles_drop (peer s) (Duty.Silent (SilentDuty.Timer s)) ds n.end (λ e. peer_is_other s (same_timer e)) h.settles_back;
          begins = begun_after (begun_drops s j h.out.sender h.back.receiver m.end (Duty.Silent (SilentDuty.Timer s)) ds (differ refl) (λ is. differ refl) h.begins);
          begins_back = begun_drops (peer s) k h.back.sender h.out.receiver n.end (Duty.Silent (SilentDuty.Timer s)) ds (differ refl) (λ is. differ refl) h.begins_back;
          owed = h.owed;
          owed_back = h.owed_back;
        }
