-- What follows each duty, once it is answered: what the agenda becomes, and where the end stays as it is or is dead.
use Rattle.std.specs.Prelude.{ℕ, ◌≡◌, ◌⊎◌, Bool, true, false, Option, Some, None, List, [], ◌∷◌, ◌++◌}
use Rattle.sides.specs.declared.side.Side.{Side}
use Rattle.sides.specs.declared.side.Side.TheVariants.{A, B}
use Rattle.sides.specs.Side.{peer}
use Rattle.subflow_tcp.specs.States.{is_dead}
use Rattle.path_agenda.specs.Agenda.{rest_of_turn, emission, syn_came, syn_ack_came, join_came, refuses, join_answered, copy_came, syn_again, answers, answers_dead, expired, expired_for_ever, announces, withdraws, leaves, breaks, resets, stops}
use Rattle.path_agenda.specs.declared.duty.Duty.{Duty}
use Rattle.path_agenda.specs.declared.duty.Duty.TheVariants as duties
use Rattle.path_agenda.specs.declared.duty.AskDuty.TheVariants as ask_duties
use Rattle.path_agenda.specs.declared.duty.SendDuty.TheVariants as send_duties
use Rattle.path_agenda.specs.declared.duty.StepDuty.TheVariants as step_duties
use Rattle.path_store.specs.declared.lines.LineAction.{LineAction}
use Rattle.path_store.specs.declared.lines.LineAction.TheVariants as actions
use Rattle.path_core.specs.Breaking.{leaves_unless_dead}
use Rattle.path_core.specs.End.{PathEnd}
use Rattle.path_core.specs.Events.{next_event}
use Rattle.path_core.specs.State.{PathState, end_at}
use Rattle.path_core.specs.declared.events.Event.{Event}
use Rattle.path_core.specs.declared.events.Event.TheVariants as happenings
use Rattle.world_laws.specs.Writes.{side_of}

-- ---- duties

-- a duty treats what a copy said or carried
abbrev pub treats_copy : Duty → Bool
treats_copy (duties.Ask (ask_duties.PlainHandshake s)) = true
treats_copy (duties.Ask (ask_duties.PeerKey s)) = true
treats_copy (duties.Ask (ask_duties.JoinHeard s)) = true
treats_copy (duties.Ask (ask_duties.Opened s)) = true
treats_copy (duties.Ask (ask_duties.AckHeard s)) = true
treats_copy (duties.Ask (ask_duties.FailHeard s)) = true
treats_copy (duties.Ask (ask_duties.PlainData s)) = true
treats_copy (duties.Ask (ask_duties.Edge s)) = true
treats_copy (duties.Ask (ask_duties.CheckFailed s)) = true
treats_copy (duties.Ask (ask_duties.HeardFin s index)) = true
treats_copy (duties.Ask (ask_duties.SubflowFin s)) = true
treats_copy (duties.Step (step_duties.Heard s index)) = true
treats_copy (duties.Step (step_duties.PlainAck s)) = true
treats_copy (duties.Step (step_duties.Unmapped s)) = true
treats_copy _ = false

-- a duty may break the path: one that treats a copy, or one by which the path breaks
abbrev pub may_break : Duty → Bool
may_break (duties.Ask (ask_duties.BreakAck s reason)) = true
may_break (duties.Send (send_duties.BreakReset s reason)) = true
may_break d = treats_copy d

-- a duty is none of one side: an event comes, or the turn ends
abbrev pub is_of_both : Duty → Bool
is_of_both (duties.Step step_duties.Events) = true
is_of_both duties.End = true
is_of_both _ = false

-- a path that joins is asked for
abbrev pub hears_join : Duty → Bool
hears_join (duties.Ask (ask_duties.JoinHeard s)) = true
hears_join _ = false

-- one duty tells another one in its place: the side falls back, its control book is told of a Data ACK or an MP_FAIL, or a path that joins is
-- answered or refused
abbrev pub is_told : Duty → Bool
is_told (duties.Ask (ask_duties.GoIdentity s)) = true
is_told (duties.Ask (ask_duties.AckHeard s)) = true
is_told (duties.Ask (ask_duties.FailHeard s)) = true
is_told (duties.Send (send_duties.SynAck s)) = true
is_told (duties.Send (send_duties.Refuse s)) = true
is_told _ = false

-- by a duty no segment is sent but a reset, nor by one that it tells
abbrev pub is_silent : Duty → Bool
is_silent (duties.Ask (ask_duties.JoinHeard s)) = false
is_silent (duties.Ask d) = true
is_silent (duties.Silent d) = true
is_silent (duties.Step step_duties.Events) = false
is_silent (duties.Step (step_duties.Data s)) = false
is_silent (duties.Step d) = true
is_silent _ = false

-- what follows a duty of this side that others stand behind; its end is gone or not
pub data Follows (s : Side) (gone : Bool) (d : Duty) (ds : List Duty) : List Duty → Type 0 where
  -- the others; it once more; another one of the side in its place
  goes_on : Follows s gone d ds ds
  again : Follows s gone d ds (d ∷ ds)
  told : treats_copy d ≡ true → (e : Duty) → side_of e ≡ s → is_of_both e ≡ false → is_told e ≡ true → (is_silent e ≡ true) ⊎ (hears_join d ≡ true)
      → Follows s gone d ds (e ∷ ds)
  -- the end is dead and gives back its bytes, and then tells it
  left : gone ≡ true → Follows s gone d ds (duties.Ask (ask_duties.Leave s) ∷ ds)
  noted : Follows s gone d ds (duties.Ask (ask_duties.Dead s) ∷ ds)
  -- the end is broken, reset, dead, or stopped by its peer
  broken : may_break d ≡ true → (reason : ℕ) → Follows s gone d ds (breaks s reason)
  is_reset : may_break d ≡ true → (reason : ℕ) → Follows s gone d ds (resets s reason)
  dead : may_break d ≡ true → gone ≡ true → Follows s gone d ds (leaves s)
  stopped : may_break d ≡ true → Follows s gone d ds (stops s)
  -- the turn is over
  over : is_of_both d ≡ true → Follows s gone d ds []

-- ---- events

-- the side of whose end a line of the script speaks
abbrev pub line_side : LineAction → Side
line_side actions.Die = A
line_side (actions.Prio s backup) = s
line_side (actions.Announce s id) = s
line_side (actions.Withdraw s id) = s

-- the side at whose end an event happens
abbrev pub event_side : Option Event → Side
event_side None = A
event_side (Some (happenings.Joins tick)) = A
event_side (Some (happenings.Takes line)) = line_side line.action
event_side (Some (happenings.Arrives due)) = due.to
event_side (Some (happenings.Fires s tick)) = s

-- subflow, stream, modes and notices stay
pub record IsStill (e f : PathEnd) : Type 0 where
  pub tcp : f.tcp ≡ e.tcp
  pub sending : f.sending ≡ e.sending
  pub modes : f.modes ≡ e.modes
  pub notices : f.notices ≡ e.notices

-- an end is dead
abbrev pub is_gone : PathEnd → Bool
is_gone e = is_dead e.tcp.state

-- what follows an event that makes of the end of this side another one, or that there is none
pub data Happened (s : Side) (e f : PathEnd) : List Duty → Type 0 where
  nothing : IsStill e f → Happened s e f rest_of_turn
  sent : Happened s e f (emission s)
  syn : Happened s e f (syn_came s)
  syn_ack : Happened s e f (syn_ack_came s)
  join : Happened s e f (join_came s)
  no_join : Happened s e f (refuses s)
  join_answer : Happened s e f (join_answered s)
  copy : (count : ℕ) → Happened s e f (copy_came s count)
  syn_once_more : Happened s e f (syn_again s)
  answered : Happened s e f (answers s)
  answered_dead : IsStill e f → Happened s e f (answers_dead s)
  timed_out : Happened s e f (expired s)
  timed_out_for_ever : Happened s e f (expired_for_ever s)
  announced : (id : ℕ) → Happened s e f (announces s id)
  withdrawn : (id : ℕ) → Happened s e f (withdraws s id)
  dead : is_gone f ≡ true → Happened s e f (leaves s)
  both_dead : is_gone f ≡ true → (a b : PathEnd) → Happened s e f (leaves_unless_dead A a ++ (leaves_unless_dead B b ++ rest_of_turn))
  is_reset : (reason : ℕ) → Happened s e f (resets s reason)

module _ {C : Type 0} where
  -- an event happens to the end of a side: the other end stays, or is dead
  abbrev pub Happens : Side → PathState C → PathState C → Type 0
  Happens s p q =
      Happened s (end_at s p) (end_at s q) q.agenda × ((is_gone (end_at (peer s) q) ≡ true) ⊎ IsStill (end_at (peer s) p) (end_at (peer s) q))

  -- of any duty
  abbrev pub After : Duty → List Duty → PathState C → PathState C → Type 0
  After (duties.Step step_duties.Events) ds p q = Happens (event_side (next_event p)) p q
  After d ds p q = Follows (side_of d) (is_gone (end_at (side_of d) q)) d ds q.agenda
