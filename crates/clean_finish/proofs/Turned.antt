-- The world as the other side sees it, and with books that are equal.
--
-- One side's view: `Facing` (`specs/Running`) says of a path and of both of its lanes what one side sees of them, with
-- the side a variable, and all that a side has as one record (`Half`). A duty of either side is one lemma; `from_a` and
-- `from_b` (`proofs/Turned`) turn the view, and compute.
use Rattle.clean_finish.proofs.Words.{◌≡◌, subst, A, B, SixBooks, AppState, Carried, PathState, Setting, Lane, ControlIs, Keys, FacesOfB, FacesOfA, AppsShow}

module _ (keys : Keys) (k j : Setting) (s v : Lane) (a b : AppState) where
  abbrev pub from_a : (books : SixBooks) (p : PathState Carried) → FacesOfA keys k j s v a b books p → FacesOfB keys k j s v a b books p
  from_a books p h = record {
    out = h.back;
    back = h.out;
    stage = h.stage_back;
    stage_back = h.stage;
    going = h.going_back;
    going_back = h.going;
    now = h.now_back;
    now_back = h.now;
    hand = h.hand_back;
    hand_back = h.hand;
    owes = h.owes_back;
    owes_back = h.owes;
    waiting = h.waiting_back;
    waiting_back = h.waiting;
    own = h.other;
    other = h.own;
    way = h.way_back;
    way_back = h.way;
    apps = h.apps_back;
    apps_back = h.apps;
    stages = h.stages_back;
    stages_back = h.stages;
    control = h.control_back;
    control_back = h.control;
    turn = h.turn_back;
    turn_back = h.turn;
    settles = h.settles_back;
    settles_back = h.settles;
    begins = h.begins_back;
    begins_back = h.begins;
    owed = h.owed_back;
    owed_back = h.owed;
  }

  abbrev pub from_b : (books : SixBooks) (p : PathState Carried) → FacesOfB keys k j s v a b books p → FacesOfA keys k j s v a b books p
  from_b books p h = record {
    out = h.back;
    back = h.out;
    stage = h.stage_back;
    stage_back = h.stage;
    going = h.going_back;
    going_back = h.going;
    now = h.now_back;
    now_back = h.now;
    hand = h.hand_back;
    hand_back = h.hand;
    owes = h.owes_back;
    owes_back = h.owes;
    waiting = h.waiting_back;
    waiting_back = h.waiting;
    own = h.other;
    other = h.own;
    way = h.way_back;
    way_back = h.way;
    apps = h.apps_back;
    apps_back = h.apps;
    stages = h.stages_back;
    stages_back = h.stages;
    control = h.control_back;
    control_back = h.control;
    turn = h.turn_back;
    turn_back = h.turn;
    settles = h.settles_back;
    settles_back = h.settles;
    begins = h.begins_back;
    begins_back = h.begins;
    owed = h.owed_back;
    owed_back = h.owed;
  }

  abbrev pub rebooked : (x y : SixBooks) (p : PathState Carried) → x ≡ y → FacesOfA keys k j s v a b x p → FacesOfA keys k j s v a b y p
  rebooked x y p same h = record {
    out = h.out;
    back = h.back;
    stage = h.stage;
    stage_back = h.stage_back;
    going = h.going;
    going_back = h.going_back;
    now = h.now;
    now_back = h.now_back;
    hand = h.hand;
    hand_back = h.hand_back;
    owes = h.owes;
    owes_back = h.owes_back;
    waiting = h.waiting;
    waiting_back = h.waiting_back;
    own = h.own;
    other = h.other;
    way = h.way;
    way_back = h.way_back;
    apps = subst (λ (z : SixBooks). AppsShow k h.out h.waiting a z.send_a b z.reassembly_b) same h.apps;
    apps_back = subst (λ (z : SixBooks). AppsShow j h.back h.waiting_back b z.send_b a z.reassembly_a) same h.apps_back;
    stages = h.stages;
    stages_back = h.stages_back;
    control = subst (λ (z : SixBooks). ControlIs A keys z.control_a) same h.control;
    control_back = subst (λ (z : SixBooks). ControlIs B keys z.control_b) same h.control_back;
    turn = h.turn;
    turn_back = h.turn_back;
    settles = h.settles;
    settles_back = h.settles_back;
    begins = h.begins;
    begins_back = h.begins_back;
    owed = h.owed;
    owed_back = h.owed_back;
  }
