-- The clock goes on to the tick of the next arrival, in both lanes.
use Rattle.clean_finish.proofs.Words.{◌≡◌, refl, sym, subst, ℕ, ◌<◌, ◌≤◌, List, Side, peer, Duty, StepDuty, Profile, Setting, Lane, Stage, MayMove, goes_back}
use Rattle.clean_finish.proofs.Words.{lane_moves, moved_to, first_at, Keys, Facing, Half, Has}
use Rattle.clean_finish.proofs.Opened.{waiting_on, before_waiting, stage_waits}
use Rattle.clean_finish.proofs.Passing.{stands_then}

pub may_move : (p : Stage) {clock until tick : ℕ} (w : Lane) → (w.clock ≡ clock) × (w.until ≡ until) → clock ≤ tick → tick < until
    → tick ≤ first_at until w.datas → tick ≤ first_at until w.acks → MayMove (waiting_on p) tick w
may_move p {clock} {until} {tick} w now later early datas acks = record {
  turn = refl;
  later = subst (λ (x : ℕ). x ≤ tick) (sym now.0) later;
  early = subst (λ (x : ℕ). tick < x) (sym now.1) early;
  datas = subst (λ (x : ℕ). tick ≤ first_at x w.datas) (sym now.1) datas;
  acks = subst (λ (x : ℕ). tick ≤ first_at x w.acks) (sym now.1) acks;
}

module _ {s : Side} {keys : Keys} {k j : Setting} {c : Profile} {begun begun_back : Lane} {m n : Half} {clock until : ℕ} where
  abbrev pub moves_on : (ds : List Duty) (h : Facing s keys k j c begun begun_back m n clock until ds) (tick : ℕ) → Has (Duty.Step StepDuty.Events) ds
      → clock ≤ tick → tick < until → tick ≤ first_at until h.out.datas → tick ≤ first_at until h.out.acks
      → tick ≤ first_at until h.back.datas → tick ≤ first_at until h.back.acks
      → Facing s keys k j c begun begun_back m n tick until ds
  moves_on ds h tick events later early datas acks datas_back acks_back = record {
    out = moved_to tick h.out;
    back = moved_to tick h.back;
    stage = waiting_on h.stage;
    stage_back = waiting_on h.stage_back;
    going = stands_then (stands_then h.going (waiting_on h.stage) h.out (goes_back (waiting_on h.stage) (before_waiting h.stage)))
        (waiting_on h.stage) (moved_to tick h.out) (lane_moves tick (may_move h.stage h.out h.now later early datas acks));
    going_back = stands_then (stands_then h.going_back (waiting_on h.stage_back) h.back
        (goes_back (waiting_on h.stage_back) (before_waiting h.stage_back))) (waiting_on h.stage_back) (moved_to tick h.back)
        (lane_moves tick (may_move h.stage_back h.back h.now_back later early datas_back acks_back));
    now = (refl, h.now.1);
    now_back = (refl, h.now_back.1);
    hand = h.hand;
    hand_back = h.hand_back;
    owes = h.owes;
    owes_back = h.owes_back;
    waiting = h.waiting;
    waiting_back = h.waiting_back;
    own = h.own;
    other = h.other;
    way = h.way;
    way_back = h.way_back;
    apps = record {
      writes = record { numbers = h.apps.writes.numbers; over = h.apps.writes.over };
      reads = record { numbers = h.apps.reads.numbers; received = h.apps.reads.received; over = h.apps.reads.over };
      receives = record {
        read = h.apps.receives.read;
        received = h.apps.receives.received;
        known = h.apps.receives.known;
        capacity = h.apps.receives.capacity;
      };
      book = record { edge = h.apps.book.edge; owner = h.apps.book.owner; marks = h.apps.book.marks; taken = h.apps.book.taken };
      room = h.apps.room;
      whole = h.apps.whole;
      fin = h.apps.fin;
    };
    apps_back = record {
      writes = record { numbers = h.apps_back.writes.numbers; over = h.apps_back.writes.over };
      reads = record { numbers = h.apps_back.reads.numbers; received = h.apps_back.reads.received; over = h.apps_back.reads.over };
      receives = record {
        read = h.apps_back.receives.read;
        received = h.apps_back.receives.received;
        known = h.apps_back.receives.known;
        capacity = h.apps_back.receives.capacity;
      };
      book = record {
        edge = h.apps_back.book.edge;
        owner = h.apps_back.book.owner;
        marks = h.apps_back.book.marks;
        taken = h.apps_back.book.taken;
      };
      room = h.apps_back.room;
      whole = h.apps_back.whole;
      fin = h.apps_back.fin;
    };
    stages = stage_waits s (peer s) ds n.end.treated.asked h.owes_back h.stage events h.stages;
    stages_back = stage_waits (peer s) s ds m.end.treated.asked h.owes h.stage_back events h.stages_back;
    control = h.control;
    control_back = h.control_back;
    turn = h.turn;
    turn_back = h.turn_back;
    settles = h.settles;
    settles_back = h.settles_back;
    begins = h.begins;
    begins_back = h.begins_back;
    owed = h.owed;
    owed_back = h.owed_back;
  }
