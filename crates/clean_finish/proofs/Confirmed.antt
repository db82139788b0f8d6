-- B hears both keys: from then on it may send bytes, and use the DSS.
use Rattle.clean_finish.proofs.Words.{◌≡◌, refl, subst, ℕ, ◌+◌, ◌<◌, ◌≤◌, min, Bool, true, false, if◌then◌else◌, inl, inr, Option, None, List, ◌∷◌, arith, Some}
use Rattle.clean_finish.proofs.Words.{◌==◌, both_ways, All-weaker, is_identity, stays, Side, A, B, Control, after_keys, Duty, AskDuty, Profile, PathEnd}
use Rattle.clean_finish.proofs.Words.{is_connected, Setting, Lane, all_left, Going, MayFlag, flags, goes_back, flagged, AreTaken, Hand, EndIs, HeardIs}
use Rattle.clean_finish.proofs.Words.{IsGranted, last_told, row_seen, ControlIs, Keys, IsSetting, Facing, Half}
use Rattle.fallback_state.specs.declared.fall.Verdict.TheVariants.{Stay}
use Rattle.clean_finish.proofs.AckNew.{records_same}
use Rattle.clean_finish.proofs.Dropping.{apart, is_apart, stage_drops, settles_drop, begun_drops}
use Rattle.clean_finish.proofs.Passing.{stands_then}
use Rattle.clean_finish.proofs.Quiet.{now_out, now_back}
use Rattle.clean_finish.proofs.Raised.{raised, before_raised, Emits, stage_raised}
use Rattle.clean_finish.proofs.Spans.{spans_for}

-- the control book notes them
pub keys_noted : (s : Side) (keys : Keys) (own other : ℕ) (c : Control) → ControlIs s keys c → ControlIs s keys (after_keys own other c)
keys_noted s keys own other c is = by (own == c.keys.own) (is_identity c.fall.mode)
  where
    by : (same none : Bool) → ControlIs s keys (if same then record c { keys = record c.keys { peer = Some other }; fall = (if none then stays c.fall else (record c.fall { confirmed = true }, Stay)).0 } else c)
    by true true = record { mode = is.mode; joined = is.joined; own_key = is.own_key; first = is.first; alone = is.alone; carrier = is.carrier; stays = is.stays; announces = is.announces; withdraws = is.withdraws }
    by true false = record { mode = is.mode; joined = is.joined; own_key = is.own_key; first = is.first; alone = is.alone; carrier = is.carrier; stays = is.stays; announces = is.announces; withdraws = is.withdraws }
    by false none = is

module _ {keys : Keys} {k j : Setting} {c : Profile} {begun begun_back : Lane} {m n : Half} {clock until : ℕ} (ticks t u : ℕ)
    (k_is : IsSetting c ticks k) (j_is : IsSetting c ticks j)
    (going : Going k begun t all_left begun) (going_back : Going j begun_back u all_left begun_back)
    {ds : List Duty} (h : Facing B keys k j c begun begun_back m n clock until (Duty.Ask (AskDuty.Opened B) ∷ ds)) (there : Emits B ds)
    (nothing_waits : h.waiting ≡ 0) (sent : 1 ≤ h.out.control_sent) (came : 1 ≤ min 1 h.back.control_came) (unready : h.out.ready ≡ 0)
    (connected : is_connected m.end.tcp.state ≡ true)
  where
    abbrev pub out_after : Lane
    out_after = flagged 1 1 h.out

    abbrev pub end_after : PathEnd
    end_after = record m.end { modes = record m.end.modes { peer_key = Some keys.a; clear = true }; treated = record m.end.treated { keys_told = true } }

    pub not_a : B ≡ A → ⊥
    not_a e = cc

    pub up : {x y : ℕ} → x ≤ y → y ≡ 0 → x ≤ 1
    up less is = omega (arith, less, is)

    pub up_two : {x y z : ℕ} → x ≤ y → y ≤ z → z ≡ 0 → x ≤ 1
    up_two p q is = omega (arith, p, q, is)

    pub within : {to waiting : ℕ} (granted : ℕ) → waiting ≡ 0 → to ≤ granted + waiting → to ≤ granted + 0
    within granted none less = omega (arith, none, less)

    pub room_on : {waiting written : ℕ} (granted : ℕ) → waiting ≡ 0 → granted + waiting ≤ written → granted + 0 ≤ written
    room_on granted none less = omega (arith, none, less)

    pub row_on : (o : Option Hand) {x : ℕ} → x ≤ row_seen h.out.sender o → x ≤ row_seen out_after.sender o
    row_on None less = less
    row_on (Some y) less = less

    pub heard_on : (o : Option Hand) → HeardIs B k.total (last_told h.out.heard o) m.end.tcp → HeardIs B k.total (last_told out_after.heard o) m.end.tcp
    heard_on o is = is

    pub may_flag : MayFlag k begun (raised h.stage) 1 1 h.out
    may_flag = record {
      emit = refl;
      finish = refl;
      ready = low unready;
      clear = low_clear h.own.modes.cleared unready;
      window = λ e. near h.out.told.edge k.least k.threshold lane.since.read lane.numbers.read lane.numbers.received granted (h.other.receiving.least (answered came lane_back.numbers.control)) k_is.some;
    }
      where
        lane : Going k begun t h.stage h.out
        lane = now_out ticks t u k_is j_is going going_back h

        lane_back : Going j begun_back u h.stage_back h.back
        lane_back = now_back ticks t u k_is j_is going going_back h

        low : {x : ℕ} → x ≡ 0 → x ≤ 1
        low is = omega (arith, is)

        low_clear : {x y : ℕ} → x ≤ y → y ≡ 0 → x ≤ 1
        low_clear less is = omega (arith, less, is)

        answered : {x y : ℕ} → 1 ≤ min 1 x → x ≤ y → 1 ≤ y
        answered a b = omega (arith, a, b)

        granted : h.out.granted ≡ 0
        granted = zero_is h.out.granted (λ one. not_both (h.own.sending.bytes (more h.waiting one)) unready)
          where
            zero_is : (x : ℕ) → (1 ≤ x → ⊥) → x ≡ 0
            zero_is x less = omega (arith, less)

            more : {x : ℕ} (y : ℕ) → 1 ≤ x → 1 ≤ x + y
            more y one = omega (arith, one)

            not_both : {x : ℕ} → 1 ≤ x → x ≡ 0 → ⊥
            not_both one is = absurd (omega (arith, one, is))

        near : {s r e g : ℕ} (told least threshold : ℕ) → s ≤ r → r ≤ e → e ≤ g → g ≡ 0 → least ≤ told + 31 → 1 ≤ threshold
            → s + least < told + 31 + threshold
        near told least threshold a b d is f one = omega (arith, a, b, d, is, f, one)

    pub confirmed_own : EndIs B keys k j out_after.sender h.back.receiver h.hand h.owes 0 end_after
    confirmed_own = record {
      subflow = record {
        phase = h.own.subflow.phase;
        opens = h.own.subflow.opens;
        records = records_same k h.out.sender out_after.sender h.waiting m.end.tcp m.end.tcp h.own.subflow.records nothing_waits sent refl refl refl;
        ahead = record {
          bytes = h.own.subflow.ahead.bytes;
          opened = h.own.subflow.ahead.opened;
          finished = h.own.subflow.ahead.finished;
          seen = h.own.subflow.ahead.seen;
        };
        congestion = record {
          window = h.own.subflow.congestion.window;
          most = h.own.subflow.congestion.most;
          steady = h.own.subflow.congestion.steady;
          row = row_on h.hand h.own.subflow.congestion.row;
        };
        come = h.own.subflow.come;
        heard = heard_on h.hand h.own.subflow.heard;
        quiet = λ e. absurd (both_ways _ e connected);
        begun = h.own.subflow.begun;
        keyed = h.own.subflow.keyed;
        long = h.own.subflow.long;
        due = h.own.subflow.due;
      };
      sending = record {
        heard = h.own.sending.heard;
        known = h.own.sending.known;
        data_fin = h.own.sending.data_fin;
        acked = h.own.sending.acked;
        came = h.own.sending.came;
        shut = (λ e. h.own.sending.shut.0 nothing_waits, λ some. absurd (omega (arith, some)));
        granted = All-weaker (IsGranted h.out.sender h.waiting) (IsGranted out_after.sender 0)
            (λ span is. record { waits = is.waits; within = within h.out.granted nothing_waits is.within }) m.end.sending.granted h.own.sending.granted;
        spans = spans_for m.end.sending.granted h.out.acked h.out.granted h.waiting h.out.granted refl nothing_waits h.own.sending.spans;
        bytes = λ some. omega arith;
        end = up_two h.own.sending.end h.own.modes.cleared unready;
        acked_end = h.own.sending.acked_end;
        finish = h.own.sending.finish;
      };
      receiving = record {
        next = h.own.receiving.next;
        limit = h.own.receiving.limit;
        told = h.own.receiving.told;
        least = h.own.receiving.least;
        unmapped = h.own.receiving.unmapped;
        fin_told = h.own.receiving.fin_told;
        said = h.own.receiving.said;
        unended = λ is. absurd (not_a is);
        unheard = λ is. absurd (not_a is);
      };
      modes = record {
        mode = h.own.modes.mode;
        standby = h.own.modes.standby;
        mapping = h.own.modes.mapping;
        owes_third = h.own.modes.owes_third;
        owes_mapping = h.own.modes.owes_mapping;
        mapped_to = h.own.modes.mapped_to;
        plain_acks = h.own.modes.plain_acks;
        own_key = h.own.modes.own_key;
        peer_key = refl;
        clear = refl;
        capable = h.own.modes.capable;
        ready = came;
        cleared = omega arith;
        both = λ is. (refl, up (h.own.modes.both is).1 unready);
        shown = h.own.modes.shown;
      };
      timer = h.own.timer;
      notices = h.own.notices;
    }

    abbrev pub confirmed : Facing B keys k j c begun begun_back (record m { end = end_after; control = after_keys keys.b keys.a m.control }) n clock until ds
    confirmed = record {
      out = out_after;
      back = h.back;
      stage = raised h.stage;
      stage_back = h.stage_back;
      going = stands_then (stands_then h.going (raised h.stage) h.out (goes_back (raised h.stage) (before_raised h.stage)))
          (raised h.stage) out_after (flags 1 1 may_flag);
      going_back = h.going_back;
      now = h.now;
      now_back = h.now_back;
      hand = h.hand;
      hand_back = h.hand_back;
      owes = h.owes;
      owes_back = h.owes_back;
      waiting = 0;
      waiting_back = h.waiting_back;
      own = confirmed_own;
      other = h.other;
      way = record {
        sent = h.way.sent;
        flights = h.way.flights;
        datas_are = h.way.datas_are;
        acks_are = h.way.acks_are;
        follow = h.way.follow;
        low = h.way.low;
        control = h.way.control;
        keys_shown = h.way.keys_shown;
        rise = h.way.rise;
        passed = h.way.passed;
      };
      way_back = h.way_back;
      apps = record {
        writes = record { numbers = h.apps.writes.numbers; over = h.apps.writes.over };
        reads = record { numbers = h.apps.reads.numbers; received = h.apps.reads.received; over = h.apps.reads.over };
        receives = record {
          read = h.apps.receives.read;
          received = h.apps.receives.received;
          known = h.apps.receives.known;
          capacity = h.apps.receives.capacity;
        };
        book = record {
          edge = h.apps.book.edge;
          owner = h.apps.book.owner;
          marks = h.apps.book.marks;
          taken = subst (λ (n : ℕ). AreTaken (h.out.granted + n) m.send.marks) nothing_waits h.apps.book.taken;
        };
        room = room_on h.out.granted nothing_waits h.apps.room;
        whole = h.apps.whole;
        fin = h.apps.fin;
      };
      apps_back = h.apps_back;
      stages = stage_raised B A ds n.end.treated.asked h.owes_back h.stage there
          (stage_drops B A (Duty.Ask (AskDuty.Opened B)) ds n.end.treated.asked h.owes_back h.stage (is_apart B A (Duty.Ask (AskDuty.Opened B)) refl) h.stages);
      stages_back = stage_drops A B (Duty.Ask (AskDuty.Opened B)) ds m.end.treated.asked h.owes h.stage_back (is_apart A B (Duty.Ask (AskDuty.Opened B)) refl) h.stages_back;
      control = keys_noted B keys keys.b keys.a m.control h.control;
      control_back = h.control_back;
      turn = h.turn;
      turn_back = h.turn_back;
      settles = inr there.timer;
      settles_back = settles_drop A (Duty.Ask (AskDuty.Opened B)) ds n.end (apart refl refl) h.settles_back;
      begins = inl sent;
      begins_back = begun_drops A k h.back.sender h.out.receiver n.end (Duty.Ask (AskDuty.Opened B)) ds (apart refl refl) (λ is. apart refl refl) h.begins_back;
      owed = h.owed;
      owed_back = h.owed_back;
    }
