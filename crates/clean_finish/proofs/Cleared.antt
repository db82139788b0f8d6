-- A hears its first DSS: from then on it may use it.
use Rattle.clean_finish.proofs.Words.{◌≡◌, refl, sym, ap, ◌∙◌, ℕ, ◌≤◌, min, Bool, true, false, ◌||◌, inl, inr, Option, None, List, ◌∷◌, arith, Some, All-weaker}
use Rattle.clean_finish.proofs.Words.{A, B, Record, Duty, Profile, PathEnd, after_dss, Setting, Lane, all_left, Going, MayFlag, flags, goes_back, flagged, Hand}
use Rattle.clean_finish.proofs.Words.{EndIs, HeardIs, IsGranted, last_told, row_seen, Waits, WaitsSyn, WaitsNone, WaitsBytes, Keys, IsSetting, Facing, Half}
use Rattle.clean_finish.proofs.Dropping.{is_waited, apart, is_apart, stage_drops, settles_drop, begun_drops}
use Rattle.clean_finish.proofs.Passing.{stands_then}
use Rattle.clean_finish.proofs.Quiet.{now_out}
use Rattle.clean_finish.proofs.Raised.{raised, before_raised, Emits, stage_raised}

or_true : (b : Bool) → (b || true) ≡ true
or_true true = refl
or_true false = refl

pub or_false : (b : Bool) → (b || false) ≡ b
or_false true = refl
or_false false = refl

-- a DSS is news for the modes of A alone
pub dss_at_a : (e : PathEnd) → e.modes.owes_third ≡ false → after_dss A e ≡ record e { modes = record e.modes { clear = true } }
dss_at_a e third =
    ap (λ (b : Bool). record e { modes = record e.modes { clear = e.modes.clear || true; owes_third = false }; sending = record e.sending { news = e.sending.news || b } }) third
    ∙ (ap (λ (b : Bool). record e { modes = record e.modes { clear = e.modes.clear || true; owes_third = false }; sending = record e.sending { news = b } }) (or_false e.sending.news)
    ∙ (ap (λ (b : Bool). record e { modes = record e.modes { clear = b; owes_third = false } }) (or_true e.modes.clear)
    ∙ ap (λ (b : Bool). record e { modes = record e.modes { clear = true; owes_third = b } }) (sym third)))

pub dss_at_b : (e : PathEnd) → e.modes.owes_third ≡ false → after_dss B e ≡ e
dss_at_b e third =
    ap (λ (b : Bool). record e { modes = record e.modes { clear = e.modes.clear || false; owes_third = false }; sending = record e.sending { news = e.sending.news || b } }) third
    ∙ (ap (λ (b : Bool). record e { modes = record e.modes { clear = e.modes.clear || false; owes_third = false }; sending = record e.sending { news = b } }) (or_false e.sending.news)
    ∙ (ap (λ (b : Bool). record e { modes = record e.modes { clear = b; owes_third = false } }) (or_false e.modes.clear)
    ∙ ap (λ (b : Bool). record e { modes = record e.modes { owes_third = b } }) (sym third)))

module _ {keys : Keys} {k j : Setting} {c : Profile} {begun begun_back : Lane} {m n : Half} {clock until : ℕ} (ticks t u : ℕ)
    (k_is : IsSetting c ticks k) (j_is : IsSetting c ticks j)
    (going : Going k begun t all_left begun) (going_back : Going j begun_back u all_left begun_back)
    {d : Duty} {ds : List Duty} (h : Facing A keys k j c begun begun_back m n clock until (d ∷ ds)) (free : is_waited d ≡ false) (there : Emits A ds)
    (sent : 1 ≤ h.out.control_sent) (ready : 1 ≤ h.out.ready)
  where
    abbrev pub out_after : Lane
    out_after = flagged h.out.ready 1 h.out

    abbrev pub end_after : PathEnd
    end_after = record m.end { modes = record m.end.modes { clear = true } }

    pub not_b : A ≡ B → ⊥
    not_b e = cc

    pub one : {x y z : ℕ} (d : ℕ) → x ≤ y → y ≤ z → z ≤ min 1 d → x ≤ 1
    one d p q r = omega (arith, p, q, r)

    pub same : (x : ℕ) → x ≤ x
    same x = omega arith

    pub waits_on : {rest : List Record} {waiting : ℕ} → Waits k h.out.sender rest waiting → Waits k out_after.sender rest waiting
    waits_on (WaitsSyn unsent) = WaitsSyn unsent
    waits_on (WaitsNone some) = WaitsNone some
    waits_on (WaitsBytes some r kind pos unsent long most edge) = WaitsBytes some r kind pos unsent long most edge

    pub row_on : (o : Option Hand) {x : ℕ} → x ≤ row_seen h.out.sender o → x ≤ row_seen out_after.sender o
    row_on None less = less
    row_on (Some y) less = less

    pub heard_on : (o : Option Hand) → HeardIs A k.total (last_told h.out.heard o) m.end.tcp → HeardIs A k.total (last_told out_after.heard o) m.end.tcp
    heard_on o is = is

    pub may_flag : MayFlag k begun (raised h.stage) h.out.ready 1 h.out
    may_flag = record {
      emit = refl;
      finish = refl;
      ready = same h.out.ready;
      clear = one h.back.control_came (same h.out.clear) h.own.modes.cleared h.own.modes.ready;
      window = λ e. (now_out ticks t u k_is j_is going going_back h).answered.window e ready;
    }

    pub own_cleared : EndIs A keys k j out_after.sender h.back.receiver h.hand h.owes h.waiting end_after
    own_cleared = record {
      subflow = record {
        phase = h.own.subflow.phase;
        opens = h.own.subflow.opens;
        records = record {
          sent = h.own.subflow.records.sent;
          rest = h.own.subflow.records.rest;
          all = h.own.subflow.records.all;
          gone = h.own.subflow.records.gone;
          waits = waits_on h.own.subflow.records.waits;
          pieces = h.own.subflow.records.pieces;
          tile = h.own.subflow.records.tile;
          next = h.own.subflow.records.next;
          finished = h.own.subflow.records.finished;
          control = h.own.subflow.records.control;
          fits = h.own.subflow.records.fits;
        };
        ahead = record {
          bytes = h.own.subflow.ahead.bytes;
          opened = h.own.subflow.ahead.opened;
          finished = h.own.subflow.ahead.finished;
          seen = h.own.subflow.ahead.seen;
        };
        congestion = record {
          window = h.own.subflow.congestion.window;
          most = h.own.subflow.congestion.most;
          steady = h.own.subflow.congestion.steady;
          row = row_on h.hand h.own.subflow.congestion.row;
        };
        come = record { edge = h.own.subflow.come.edge; window = h.own.subflow.come.window };
        heard = heard_on h.hand h.own.subflow.heard;
        quiet = h.own.subflow.quiet;
        begun = h.own.subflow.begun;
        keyed = h.own.subflow.keyed;
        long = h.own.subflow.long;
        due = h.own.subflow.due;
      };
      sending = record {
        heard = h.own.sending.heard;
        known = h.own.sending.known;
        data_fin = h.own.sending.data_fin;
        acked = h.own.sending.acked;
        came = h.own.sending.came;
        shut = h.own.sending.shut;
        granted = All-weaker (IsGranted h.out.sender h.waiting) (IsGranted out_after.sender h.waiting)
            (λ span is. record { waits = is.waits; within = is.within }) m.end.sending.granted h.own.sending.granted;
        spans = h.own.sending.spans;
        bytes = h.own.sending.bytes;
        end = one h.back.control_came h.own.sending.end h.own.modes.cleared h.own.modes.ready;
        acked_end = h.own.sending.acked_end;
        finish = h.own.sending.finish;
      };
      receiving = record {
        next = h.own.receiving.next;
        limit = h.own.receiving.limit;
        told = h.own.receiving.told;
        least = h.own.receiving.least;
        unmapped = h.own.receiving.unmapped;
        fin_told = h.own.receiving.fin_told;
        said = h.own.receiving.said;
        unended = λ is none. absurd (omega (arith, none));
        unheard = λ is none. absurd (omega (arith, none));
      };
      modes = record {
        mode = h.own.modes.mode;
        standby = h.own.modes.standby;
        mapping = h.own.modes.mapping;
        owes_third = h.own.modes.owes_third;
        owes_mapping = h.own.modes.owes_mapping;
        mapped_to = h.own.modes.mapped_to;
        plain_acks = h.own.modes.plain_acks;
        own_key = h.own.modes.own_key;
        peer_key = h.own.modes.peer_key;
        clear = refl;
        capable = λ is. absurd (not_b is);
        ready = h.own.modes.ready;
        cleared = ready;
        both = λ is. absurd (not_b is);
        shown = h.own.modes.shown;
      };
      timer = h.own.timer;
      notices = h.own.notices;
    }

    abbrev pub cleared : Facing A keys k j c begun begun_back (record m { end = end_after }) n clock until ds
    cleared = record {
      out = out_after;
      back = h.back;
      stage = raised h.stage;
      stage_back = h.stage_back;
      going = stands_then (stands_then h.going (raised h.stage) h.out (goes_back (raised h.stage) (before_raised h.stage)))
          (raised h.stage) out_after (flags h.out.ready 1 may_flag);
      going_back = h.going_back;
      now = h.now;
      now_back = h.now_back;
      hand = h.hand;
      hand_back = h.hand_back;
      owes = h.owes;
      owes_back = h.owes_back;
      waiting = h.waiting;
      waiting_back = h.waiting_back;
      own = own_cleared;
      other = h.other;
      way = record {
        sent = h.way.sent;
        flights = h.way.flights;
        datas_are = h.way.datas_are;
        acks_are = h.way.acks_are;
        follow = h.way.follow;
        low = h.way.low;
        control = h.way.control;
        keys_shown = h.way.keys_shown;
        rise = h.way.rise;
        passed = h.way.passed;
      };
      way_back = record {
        sent = h.way_back.sent;
        flights = h.way_back.flights;
        datas_are = h.way_back.datas_are;
        acks_are = h.way_back.acks_are;
        follow = h.way_back.follow;
        low = h.way_back.low;
        control = h.way_back.control;
        keys_shown = h.way_back.keys_shown;
        rise = h.way_back.rise;
        passed = h.way_back.passed;
      };
      apps = record {
        writes = record { numbers = h.apps.writes.numbers; over = h.apps.writes.over };
        reads = record { numbers = h.apps.reads.numbers; received = h.apps.reads.received; over = h.apps.reads.over };
        receives = record {
          read = h.apps.receives.read;
          received = h.apps.receives.received;
          known = h.apps.receives.known;
          capacity = h.apps.receives.capacity;
        };
        book = record { edge = h.apps.book.edge; owner = h.apps.book.owner; marks = h.apps.book.marks; taken = h.apps.book.taken };
        room = h.apps.room;
        whole = h.apps.whole;
        fin = h.apps.fin;
      };
      apps_back = record {
        writes = record { numbers = h.apps_back.writes.numbers; over = h.apps_back.writes.over };
        reads = record { numbers = h.apps_back.reads.numbers; received = h.apps_back.reads.received; over = h.apps_back.reads.over };
        receives = record {
          read = h.apps_back.receives.read;
          received = h.apps_back.receives.received;
          known = h.apps_back.receives.known;
          capacity = h.apps_back.receives.capacity;
        };
        book = record {
          edge = h.apps_back.book.edge;
          owner = h.apps_back.book.owner;
          marks = h.apps_back.book.marks;
          taken = h.apps_back.book.taken;
        };
        room = h.apps_back.room;
        whole = h.apps_back.whole;
        fin = h.apps_back.fin;
      };
      stages = stage_raised A B ds n.end.treated.asked h.owes_back h.stage there
          (stage_drops A B d ds n.end.treated.asked h.owes_back h.stage (is_apart A B d free) h.stages);
      stages_back = stage_drops B A d ds m.end.treated.asked h.owes h.stage_back (is_apart B A d free) h.stages_back;
      control = h.control;
      control_back = h.control_back;
      turn = h.turn;
      turn_back = h.turn_back;
      settles = inr there.timer;
      settles_back = settles_drop B d ds n.end (apart refl free) h.settles_back;
      begins = inl sent;
      begins_back = begun_drops B k h.back.sender h.out.receiver n.end d ds (apart refl free) (λ is. apart refl free) h.begins_back;
      owed = h.owed;
      owed_back = h.owed_back;
    }
