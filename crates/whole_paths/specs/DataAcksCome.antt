-- What an acknowledgement is to the open end that it comes to, as a Data ACK, a DATA_FIN or a probe goes (RFC 9293, sections 3.8.6.1 and
-- 3.10.7.4).
use Rattle.std.specs.Prelude.{ℕ, ◌+◌, ◌-◌, ◌^◌, ◌≡◌, ◌<◌, ◌≤◌, false, Some, List, [], ◌∷◌}
use Rattle.sides.specs.declared.side.Side.{Side}
use Rattle.path_segments.specs.Laws.{meant}
use Rattle.path_segments.specs.Spelled.{PlainSegment}
use Rattle.link_model.specs.declared.flight.Flight.{Flight}
use Rattle.link_model.specs.Steps.{due_of}
use Rattle.subflow_tcp.specs.State.{EndState, is_at_limit}
use Rattle.subflow_tcp.specs.States.{is_dead}
use Rattle.path_agenda.specs.declared.duty.Duty.{Duty}
use Rattle.path_agenda.specs.declared.duty.Duty.TheVariants as duties
use Rattle.path_agenda.specs.declared.duty.StepDuty.TheVariants as step_duties
use Rattle.path_core.specs.DataFin.{is_data_fin_owed}
use Rattle.path_core.specs.Emission.{ack_resent}
use Rattle.path_core.specs.End.{PathEnd}
use Rattle.path_core.specs.Events.{next_event}
use Rattle.path_core.specs.State.{PathState, end_at}
use Rattle.path_core.specs.Values.{Carried, values}
use Rattle.path_core.specs.declared.events.Event.TheVariants as happenings
use Rattle.whole_paths.specs.Arrivals.{Arrival, ComesAgain, HasJoined}
use Rattle.whole_paths.specs.AsFar.{stage}
use Rattle.whole_paths.specs.Brought.{Brings}
use Rattle.whole_paths.specs.Copies.{IsUnderWay}
use Rattle.whole_paths.specs.DataAcksAsked.{IsAsking}
use Rattle.whole_paths.specs.Due.{CopiesArriveSo}

-- the segment has neither SYN nor FIN nor bytes, and is no reset
pub record IsBare (x : PlainSegment) : Type 0 where
  pub syn : x.syn ≡ false
  pub fin : x.fin ≡ false
  pub rst : x.rst ≡ false
  pub empty : x.payload ≡ []

-- the end has both SYNs
pub record IsOpen (t : EndState) : Type 0 where
  pub opened : 2 ≤ stage t.state
  pub living : is_dead t.state ≡ false
  pub below_limit : is_at_limit t ≡ false

-- the segment stands at RCV.NXT or behind it, in the window of 2^20 positions or at its edge, and acknowledges what was sent
pub record IsInWindow (x : PlainSegment) (t : EndState) : Type 0 where
  pub from : t.recv.edge ≤ x.position
  pub within : x.position ≤ t.recv.edge + 1048576
  pub acknowledged : ℕ
  pub acknowledges : x.acknowledged ≡ Some acknowledged
  pub answered : 0 < acknowledged
  pub sent : acknowledged ≤ t.send.nxt

-- the end takes it, as it was sent
pub record ComesTaken (x : PlainSegment) (p : PathState Carried) : Type 0 where
  pub brings : Brings values p
  pub segment : brings.copy.segment ≡ meant x

-- a copy of it: in the window it is taken, and before RCV.NXT, as a probe, it is answered
pub record AckComes (x : PlainSegment) (p : PathState Carried) (t : EndState) : Type 0 where
  pub taken : IsInWindow x t → ComesTaken x p
  pub again : x.position < t.recv.edge → ComesAgain p

abbrev pub EachAckComes : Type 0
EachAckComes = (x : PlainSegment) (p : PathState Carried) (a : Arrival x p) → HasJoined a.due.to p → IsBare x → IsOpen (end_at a.due.to p).tcp → AckComes x p (end_at a.due.to p).tcp

-- ---- what an end without a record asks again

-- the acknowledgement comes by which this end asked; where nothing waits but a window or bytes, that is a probe before SND.UNA
pub record AskArrives (s : Side) (p : PathState Carried) (f : Flight Carried) (e : PathEnd) : Type 0 where
  pub arrival : Arrival (ack_resent p.profile s e) p
  pub due_is : arrival.due ≡ due_of f
  pub bare : IsBare (ack_resent p.profile s e)
  pub probes : e.modes.owes_third ≡ false → e.notices.fast_closed ≡ false → is_data_fin_owed e ≡ false → (ack_resent p.profile s e).position ≡ e.tcp.send.una - 1

-- where a copy of it was under way, and nothing was taken away or altered
abbrev pub EachAskArrives : Type 0
EachAskArrives = (s : Side) (p : PathState Carried) (f : Flight Carried) (h : IsAsking values s p f) → h.stripped ≡ false → h.altered ≡ false
    → IsUnderWay f p → f.number < 2 ^ 64 - 1
    → CopiesArriveSo p → (others : List Duty) → p.agenda ≡ duties.Step step_duties.Events ∷ others → next_event p ≡ Some (happenings.Arrives (due_of f))
    → AskArrives s p f h.sender
