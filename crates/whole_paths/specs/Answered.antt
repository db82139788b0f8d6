-- Whether an end owes an acknowledgement where a turn is over or an event is next (RFC 9293, section 3.10.7.4).
use Rattle.std.specs.Prelude.{ℕ, ◌≡◌, true, false, None, Some, IfSome, List, [], ◌∷◌, slice_get}
use Rattle.sides.specs.declared.side.Side.{Side}
use Rattle.path_segments.specs.Spelled.{PlainSegment}
use Rattle.subflow_tcp.specs.States.{is_dead}
use Rattle.path_agenda.specs.declared.duty.Duty.{Duty}
use Rattle.path_agenda.specs.declared.duty.Duty.TheVariants as duties
use Rattle.path_agenda.specs.declared.duty.StepDuty.TheVariants as step_duties
use Rattle.path_core.specs.End.{PathEnd}
use Rattle.path_core.specs.Looking.{first_sends, segment_sent}
use Rattle.path_core.specs.OptionsOut.{ack_said}
use Rattle.path_core.specs.Profile.{Profile}
use Rattle.path_core.specs.State.{PathState, end_at}
use Rattle.world_laws.specs.Members.{HoldsOfKind}
use Rattle.world_laws.specs.Actors.{ActorCrew}
use Rattle.world_laws.specs.Worlds.{WorldState}

-- neither an acknowledgement is due, nor a SYN/ACK
pub record OwesNone (e : PathEnd) : Type 0 where
  pub ack : e.tcp.due.ack ≡ false
  pub syn_ack : e.tcp.due.syn_ack ≡ false

-- the turn of the path is over, or what happens next on it comes
pub data IsDone {C : Type 0} (p : PathState C) : Type 0 where
  over : p.agenda ≡ [] → IsDone p
  next : (others : List Duty) → p.agenda ≡ duties.Step step_duties.Events ∷ others → IsDone p

-- of each end that isn't dead, then
abbrev pub HasAnswered : {C : Type 0} → PathState C → Type 0
HasAnswered p = IsDone p → (s : Side) → is_dead (end_at s p).tcp.state ≡ false → OwesNone (end_at s p)

-- the segment is a reset, or an acknowledgement at SND.NXT and nothing more, with the options of one
pub data IsBareAck (c : Profile) (s : Side) (e : PathEnd) (x : PlainSegment) : Type 0 where
  acks : x ≡ ack_said c s e.tcp.send.nxt None e → IsBareAck c s e x
  resets : x.rst ≡ true → IsBareAck c s e x

-- such a one goes first from each end that isn't dead and owes an acknowledgement
abbrev pub AcksGoFirst : {C : Type 0} → PathState C → Type 0
AcksGoFirst p = (s : Side) → is_dead (end_at s p).tcp.state ≡ false → (end_at s p).tcp.due.ack ≡ true
    → IfSome (first_sends p.agenda p) (λ t. t.from ≡ s → IsBareAck p.profile s (end_at s p) (segment_sent p t))

-- on each path
pub record CopiesAreAnswered {C : Type 0} (w : WorldState C) : Type 0 where
  pub each : (actor : ℕ) (c : ActorCrew C) → slice_get w.crew actor ≡ Some c → HoldsOfKind (λ app. Unit {0}) HasAnswered c.member
  pub first : (actor : ℕ) (c : ActorCrew C) → slice_get w.crew actor ≡ Some c → HoldsOfKind (λ app. Unit {0}) AcksGoFirst c.member
