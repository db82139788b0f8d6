-- Duties that come to nothing, from one side: what stays, and the move that a lane makes.
use Rattle.clean_finish.proofs.Words.{◌≡◌, refl, ap, ℕ, ◌+◌, ◌<◌, ◌≤◌, false, List, ◌∷◌, suc, Side, A, B, peer, Duty, SendDuty, StepDuty, AskDuty, Profile}
use Rattle.clean_finish.proofs.Words.{Setting, Lane, Stage, all_left, Going, Move, HasEmitted, keeps_quiet, has_emitted, has_finished, all_moves_going, Keys}
use Rattle.clean_finish.proofs.Words.{Facing, Half, LaneStands}
use Rattle.clean_finish.proofs.Dropping.{is_waited, apart, differ, is_apart, stage_drops, update_drops, emit_drops, finish_drops, settles_drop, begun_drops}

-- one move more
abbrev pub stands_then : {k : Setting} {begun : Lane} {p : Stage} {w : Lane} → LaneStands k begun p w → (q : Stage) (u : Lane)
    → Move k begun p w q u → LaneStands k begun q u
stands_then {k} {begun} {p} {w} h q u move = record { count = suc h.count; moves = (p, w, h.moves, move) }

pub still_going : (k : Setting) (begun : Lane) (t : ℕ) (p : Stage) (w : Lane) → Going k begun t all_left begun → LaneStands k begun p w
    → Going k begun t p w
still_going k begun t p w going h = all_moves_going k begun t h.count all_left begun p w h.moves going

abbrev pub side_of : Duty → Side
side_of (Duty.Ask (AskDuty.Window q)) = q
side_of (Duty.Send (SendDuty.Update q)) = q
side_of (Duty.Step (StepDuty.Data q)) = q
side_of (Duty.Send (SendDuty.DataFin q)) = q
side_of _ = A

pub same_update : {p q : Side} → Duty.Send (SendDuty.Update p) ≡ Duty.Send (SendDuty.Update q) → p ≡ q
same_update e = ap side_of e

pub same_data : {p q : Side} → Duty.Step (StepDuty.Data p) ≡ Duty.Step (StepDuty.Data q) → p ≡ q
same_data e = ap side_of e

pub same_end : {p q : Side} → Duty.Send (SendDuty.DataFin p) ≡ Duty.Send (SendDuty.DataFin q) → p ≡ q
same_end e = ap side_of e

pub peer_is_other : (s : Side) → peer s ≡ s → ⊥
peer_is_other A e = cc
peer_is_other B e = cc

module _ {s : Side} {keys : Keys} {k j : Setting} {c : Profile} {begun begun_back : Lane} {m n : Half} {clock until : ℕ} where
  -- nothing waits for it
  abbrev pub free_drops : (d : Duty) (ds : List Duty) → is_waited d ≡ false → Facing s keys k j c begun begun_back m n clock until (d ∷ ds)
      → Facing s keys k j c begun begun_back m n clock until ds
  free_drops d ds free h = record {
    out = h.out;
    back = h.back;
    stage = h.stage;
    stage_back = h.stage_back;
    going = h.going;
    going_back = h.going_back;
    now = h.now;
    now_back = h.now_back;
    hand = h.hand;
    hand_back = h.hand_back;
    owes = h.owes;
    owes_back = h.owes_back;
    waiting = h.waiting;
    waiting_back = h.waiting_back;
    own = h.own;
    other = h.other;
    way = h.way;
    way_back = h.way_back;
    apps = h.apps;
    apps_back = h.apps_back;
    stages = stage_drops s (peer s) d ds n.end.treated.asked h.owes_back h.stage (is_apart s (peer s) d free) h.stages;
    stages_back = stage_drops (peer s) s d ds m.end.treated.asked h.owes h.stage_back (is_apart (peer s) s d free) h.stages_back;
    control = h.control;
    control_back = h.control_back;
    turn = h.turn;
    turn_back = h.turn_back;
    settles = settles_drop s d ds m.end (apart refl free) h.settles;
    settles_back = settles_drop (peer s) d ds n.end (apart refl free) h.settles_back;
    begins = begun_drops s j h.out.sender h.back.receiver m.end d ds (apart refl free) (λ is. apart refl free) h.begins;
    begins_back = begun_drops (peer s) k h.back.sender h.out.receiver n.end d ds (apart refl free) (λ is. apart refl free) h.begins_back;
    owed = h.owed;
    owed_back = h.owed_back;
  }

  -- no update of the window is due
  abbrev pub update_passes : (ds : List Duty) → (h : Facing s keys k j c begun begun_back m n clock until (Duty.Send (SendDuty.Update s) ∷ ds))
      → (1 ≤ h.back.ready → begun_back.read + j.least < h.back.told.edge + 31 + j.threshold)
      → Facing s keys k j c begun begun_back m n clock until ds
  update_passes ds h quiet = record {
    out = h.out;
    back = h.back;
    stage = h.stage;
    stage_back = record h.stage_back { update = false };
    going = h.going;
    going_back = stands_then h.going_back (record h.stage_back { update = false }) h.back (keeps_quiet quiet);
    now = h.now;
    now_back = h.now_back;
    hand = h.hand;
    hand_back = h.hand_back;
    owes = h.owes;
    owes_back = h.owes_back;
    waiting = h.waiting;
    waiting_back = h.waiting_back;
    own = h.own;
    other = h.other;
    way = h.way;
    way_back = h.way_back;
    apps = h.apps;
    apps_back = h.apps_back;
    stages = stage_drops s (peer s) (Duty.Send (SendDuty.Update s)) ds n.end.treated.asked h.owes_back h.stage (record {
      window = differ refl;
      update = λ e. absurd (peer_is_other s (same_update e));
      emit = differ refl;
      finish = differ refl;
      wait = differ refl;
      syn_ack = differ refl;
      acknowledge = differ refl;
      ask = differ refl;
    }) h.stages;
    stages_back = update_drops (peer s) s (Duty.Send (SendDuty.Update s)) ds m.end.treated.asked h.owes h.stage_back refl h.stages_back;
    control = h.control;
    control_back = h.control_back;
    turn = h.turn;
    turn_back = h.turn_back;
    settles = settles_drop s (Duty.Send (SendDuty.Update s)) ds m.end (differ refl) h.settles;
    settles_back = settles_drop (peer s) (Duty.Send (SendDuty.Update s)) ds n.end (differ refl) h.settles_back;
    begins = begun_drops s j h.out.sender h.back.receiver m.end (Duty.Send (SendDuty.Update s)) ds (differ refl) (λ is. differ refl) h.begins;
    begins_back = begun_drops (peer s) k h.back.sender h.out.receiver n.end (Duty.Send (SendDuty.Update s)) ds (differ refl) (λ is. differ refl) h.begins_back;
    owed = h.owed;
    owed_back = h.owed_back;
  }

  -- nothing more is asked for
  abbrev pub data_passes : (ds : List Duty) → (h : Facing s keys k j c begun begun_back m n clock until (Duty.Step (StepDuty.Data s) ∷ ds))
      → HasEmitted k begun h.out.known h.out → Facing s keys k j c begun begun_back m n clock until ds
  data_passes ds h emitted = record {
    out = h.out;
    back = h.back;
    stage = record h.stage { emit = false };
    stage_back = h.stage_back;
    going = stands_then h.going (record h.stage { emit = false }) h.out (has_emitted emitted);
    going_back = h.going_back;
    now = h.now;
    now_back = h.now_back;
    hand = h.hand;
    hand_back = h.hand_back;
    owes = h.owes;
    owes_back = h.owes_back;
    waiting = h.waiting;
    waiting_back = h.waiting_back;
    own = h.own;
    other = h.other;
    way = h.way;
    way_back = h.way_back;
    apps = h.apps;
    apps_back = h.apps_back;
    stages = emit_drops s (peer s) (Duty.Step (StepDuty.Data s)) ds n.end.treated.asked h.owes_back h.stage refl h.stages;
    stages_back = stage_drops (peer s) s (Duty.Step (StepDuty.Data s)) ds m.end.treated.asked h.owes h.stage_back (record {
      window = differ refl;
      update = differ refl;
      emit = λ e. absurd (peer_is_other s (same_data e));
      finish = differ refl;
      wait = differ refl;
      syn_ack = differ refl;
      acknowledge = differ refl;
      ask = differ refl;
    }) h.stages_back;
    control = h.control;
    control_back = h.control_back;
    turn = h.turn;
    turn_back = h.turn_back;
    settles = settles_drop s (Duty.Step (StepDuty.Data s)) ds m.end (differ refl) h.settles;
    settles_back = settles_drop (peer s) (Duty.Step (StepDuty.Data s)) ds n.end (differ refl) h.settles_back;
    begins = begun_drops s j h.out.sender h.back.receiver m.end (Duty.Step (StepDuty.Data s)) ds (differ refl) (λ is. differ refl) h.begins;
    begins_back = begun_drops (peer s) k h.back.sender h.out.receiver n.end (Duty.Step (StepDuty.Data s)) ds (differ refl) (λ is. differ refl) h.begins_back;
    owed = h.owed;
    owed_back = h.owed_back;
  }

  -- no DATA_FIN is due
  abbrev pub end_passes : (ds : List Duty) → (h : Facing s keys k j c begun begun_back m n clock until (Duty.Send (SendDuty.DataFin s) ∷ ds))
      → (1 ≤ h.out.clear → h.out.known ≤ h.out.data_fin_sent) → Facing s keys k j c begun begun_back m n clock until ds
  end_passes ds h finished = record {
    out = h.out;
    back = h.back;
    stage = record h.stage { finish = false };
    stage_back = h.stage_back;
    going = stands_then h.going (record h.stage { finish = false }) h.out (has_finished finished);
    going_back = h.going_back;
    now = h.now;
    now_back = h.now_back;
    hand = h.hand;
    hand_back = h.hand_back;
    owes = h.owes;
    owes_back = h.owes_back;
    waiting = h.waiting;
    waiting_back = h.waiting_back;
    own = h.own;
    other = h.other;
    way = h.way;
    way_back = h.way_back;
    apps = h.apps;
    apps_back = h.apps_back;
    stages = finish_drops s (peer s) (Duty.Send (SendDuty.DataFin s)) ds n.end.treated.asked h.owes_back h.stage refl h.stages;
    stages_back = stage_drops (peer s) s (Duty.Send (SendDuty.DataFin s)) ds m.end.treated.asked h.owes h.stage_back (record {
      window = differ refl;
      update = differ refl;
      emit = differ refl;
      finish = λ e. absurd (peer_is_other s (same_end e));
      wait = differ refl;
      syn_ack = differ refl;
      acknowledge = differ refl;
      ask = differ refl;
    }) h.stages_back;
    control = h.control;
    control_back = h.control_back;
    turn = h.turn;
    turn_back = h.turn_back;
    settles = settles_drop s (Duty.Send (SendDuty.DataFin s)) ds m.end (differ refl) h.settles;
    settles_back = settles_drop (peer s) (Duty.Send (SendDuty.DataFin s)) ds n.end (differ refl) h.settles_back;
    begins = begun_drops s j h.out.sender h.back.receiver m.end (Duty.Send (SendDuty.DataFin s)) ds (differ refl) (λ is. differ refl) h.begins;
    begins_back = begun_drops (peer s) k h.back.sender h.out.receiver n.end (Duty.Send (SendDuty.DataFin s)) ds (differ refl) (λ is. differ refl) h.begins_back;
    owed = h.owed;
    owed_back = h.owed_back;
  }
