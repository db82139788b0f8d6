-- The DATA_FIN of an end without a record, which asks for its Data ACK, comes to the peer (RFC 8684, section 3.3.3).
use Rattle.std.specs.Prelude.{ℕ, ◌+◌, ◌-◌, ◌^◌, ◌≡◌, ◌<◌, ◌≤◌, true, false, Some, List, ◌∷◌}
use Rattle.sides.specs.declared.side.Side.{Side}
use Rattle.sides.specs.Side.{peer}
use Rattle.link_model.specs.declared.flight.Flight.{Flight}
use Rattle.link_model.specs.Steps.{due_of}
use Rattle.path_agenda.specs.declared.duty.Duty.{Duty}
use Rattle.path_agenda.specs.declared.duty.Duty.TheVariants as duties
use Rattle.path_agenda.specs.declared.duty.StepDuty.TheVariants as step_duties
use Rattle.path_agenda.specs.declared.heard.Heard.TheVariants as says
use Rattle.path_core.specs.Choices.{item_at}
use Rattle.path_core.specs.DataFin.{is_data_fin_owed}
use Rattle.path_core.specs.End.{PathEnd}
use Rattle.path_core.specs.Events.{next_event}
use Rattle.path_core.specs.MpJoin.{is_joined}
use Rattle.path_core.specs.OptionsIn.{items_of, options_heard}
use Rattle.path_core.specs.State.{PathState, end_at}
use Rattle.path_core.specs.Values.{Carried, values}
use Rattle.path_core.specs.declared.events.Event.TheVariants as happenings
use Rattle.whole_paths.specs.Brought.{Brings}
use Rattle.whole_paths.specs.Copies.{IsUnderWay}
use Rattle.whole_paths.specs.DataAcksAsked.{IsAsking}
use Rattle.whole_paths.specs.DataAcksCome.{IsOpen}
use Rattle.whole_paths.specs.Due.{CopiesArriveSo}
use Rattle.whole_paths.specs.Arrivals.{HasJoined}

-- the end may send a DSS, and its DATA_FIN at this place isn't acknowledged, nor waits anything before it that an end asks for
pub record OwesItsEnd (place : ℕ) (e : PathEnd) : Type 0 where
  pub third : e.modes.owes_third ≡ false
  pub close : e.notices.fast_closed ≡ false
  pub owed : is_data_fin_owed e ≡ true
  pub clear : e.modes.clear ≡ true
  pub mapped : e.modes.identity ≡ false
  pub end : e.sending.known_end ≡ Some place
  pub low : e.receiving.next < 2 ^ 62
  pub fair : place ≤ 2 ^ 62

-- the other end has both SYNs, reads options, and takes an acknowledgement at the SND.NXT of this one
pub record TakesFrom (sender e : PathEnd) : Type 0 where
  pub opened : IsOpen e.tcp
  pub mapped : e.modes.identity ≡ false
  pub from : e.tcp.recv.edge ≤ sender.tcp.send.nxt
  pub within : sender.tcp.send.nxt < e.tcp.recv.edge + 1048576
  pub answered : 0 < sender.tcp.recv.edge
  pub sent : sender.tcp.recv.edge ≤ e.tcp.send.nxt

-- a copy comes, is taken, and says the DATA_FIN at this place
pub record EndComes (place : ℕ) (p : PathState Carried) : Type 0 where
  pub brings : Brings values p
  pub index : ℕ
  pub says : item_at index (items_of (is_joined p.profile) brings.copy.due.to (options_heard (end_at brings.copy.due.to p) brings.copy.segment)) ≡ Some (says.DataFin place)

-- where such a copy was under way, and nothing was taken away or altered
abbrev pub EachDataFinComes : Type 0
EachDataFinComes = (s : Side) (p : PathState Carried) (f : Flight Carried) (h : IsAsking values s p f) → h.stripped ≡ false → h.altered ≡ false
    → IsUnderWay f p → f.number < 2 ^ 64 - 1
    → CopiesArriveSo p → (others : List Duty) → p.agenda ≡ duties.Step step_duties.Events ∷ others → next_event p ≡ Some (happenings.Arrives (due_of f))
    → HasJoined (peer s) p → (place : ℕ) → OwesItsEnd place h.sender → TakesFrom h.sender (end_at (peer s) p) → EndComes place p
