-- Nothing changes where a duty more stands ahead.
--
-- A duty that two templates share (Acknowledge) has a sum in `Treats`; the lemma of each summand takes it as an
-- argument beside the relation, and `subst` over the rest of the turn goes under both (`third_answered`).
use Rattle.clean_finish.proofs.Words.{ℕ, ◌≤◌, Bool, ◌⊎◌, inl, inr, ⊎_elim, List, ◌∷◌, Side, peer, Duty, Profile, PathEnd, Setting, Lane, Stage, Sender}
use Rattle.clean_finish.proofs.Words.{Receiver, Keys, Facing, Half, Has, StageIs, HasNotBegun}

pub or_more : {X : Type 0} {x : Duty} (d : Duty) (ds : List Duty) → X ⊎ Has x ds → X ⊎ Has x (d ∷ ds)
or_more d ds (inl is) = inl is
or_more d ds (inr there) = inr (inr there)

pub stage_more : (s r : Side) (d : Duty) (ds : List Duty) (asked owes : Bool) (p : Stage) → StageIs s r ds asked owes p → StageIs s r (d ∷ ds) asked owes p
stage_more s r d ds asked owes p is = record {
  window = or_more d ds is.window;
  update = or_more d ds is.update;
  emit = or_more d ds is.emit;
  finish = or_more d ds is.finish;
  wait = or_more d ds is.wait;
  tell = ⊎_elim (λ e. inl e) (λ a. inr (⊎_elim (λ i. inl (inr i)) (λ i. inr (inr i.0, i.1)) a)) is.tell;
  ask = ⊎_elim (λ e. inl e) (λ a. inr (⊎_elim (λ i. inl (inr i)) (λ i. inr (inr i.0, i.1)) a)) is.ask;
}

pub begun_more : {n : ℕ} (s : Side) (j : Setting) (out : Sender) (back : Receiver) (e : PathEnd) (d : Duty) (ds : List Duty)
    → (1 ≤ n) ⊎ HasNotBegun s j out back e ds → (1 ≤ n) ⊎ HasNotBegun s j out back e (d ∷ ds)
begun_more s j out back e d ds (inl sent) = inl sent
begun_more s j out back e d ds (inr h) = inr (record {
  ready = h.ready;
  received = h.received;
  data_fin = h.data_fin;
  keys = h.keys;
  told = h.told;
  next = h.next;
  window = or_more d ds h.window;
  syn = λ is. ((h.syn is).0, inr (h.syn is).1);
})

module _ {s : Side} {keys : Keys} {k j : Setting} {c : Profile} {begun begun_back : Lane} {m n : Half} {clock until : ℕ} where
  abbrev pub duty_more : (d : Duty) (ds : List Duty) → Facing s keys k j c begun begun_back m n clock until ds
      → Facing s keys k j c begun begun_back m n clock until (d ∷ ds)
  duty_more d ds h = record {
    out = h.out;
    back = h.back;
    stage = h.stage;
    stage_back = h.stage_back;
    going = h.going;
    going_back = h.going_back;
    now = h.now;
    now_back = h.now_back;
    hand = h.hand;
    hand_back = h.hand_back;
    owes = h.owes;
    owes_back = h.owes_back;
    waiting = h.waiting;
    waiting_back = h.waiting_back;
    own = h.own;
    other = h.other;
    way = h.way;
    way_back = h.way_back;
    apps = h.apps;
    apps_back = h.apps_back;
    stages = stage_more s (peer s) d ds n.end.treated.asked h.owes_back h.stage h.stages;
    stages_back = stage_more (peer s) s d ds m.end.treated.asked h.owes h.stage_back h.stages_back;
    control = h.control;
    control_back = h.control_back;
    turn = h.turn;
    turn_back = h.turn_back;
    settles = or_more d ds h.settles;
    settles_back = or_more d ds h.settles_back;
    begins = begun_more s j h.out.sender h.back.receiver m.end d ds h.begins;
    begins_back = begun_more (peer s) k h.back.sender h.out.receiver n.end d ds h.begins_back;
    owed = h.owed;
    owed_back = h.owed_back;
  }
