-- What the rules ask of a reply, and which duties ask for bytes.
use Rattle.std.specs.Prelude.{ℕ, ◌≡◌, All, ◌+◌, ◌^◌, ◌<◌, ◌≤◌, Bool, true, false, ◌||◌, is_some, Option, Some, None, List, [], ◌∷◌, length}
use Rattle.reassembly_book.specs.declared.call.ReassemblyReply.TheVariants as reassembly_replies
use Rattle.control_book.specs.declared.call.ControlReply.TheVariants as control_replies
use Rattle.linked_increase.specs.Paths.{IsInRange}
use Rattle.actor_desk.specs.declared.ask.Reply.{Reply}
use Rattle.actor_desk.specs.declared.ask.Reply.TheVariants as replies
use Rattle.path_agenda.specs.declared.duty.Duty.{Duty}
use Rattle.path_agenda.specs.declared.duty.Duty.TheVariants as duties
use Rattle.path_agenda.specs.declared.duty.AskDuty.TheVariants as ask_duties
use Rattle.path_agenda.specs.declared.duty.StepDuty.TheVariants as step_duties
use Rattle.path_core.specs.declared.events.Event.{Event}
use Rattle.path_core.specs.declared.events.Event.TheVariants as happenings
use Rattle.path_core.specs.Emission.{Grant, first_unsent, grant_in}
use Rattle.path_core.specs.Events.{next_event}
use Rattle.path_core.specs.Standing.{queues_in}
use Rattle.path_core.specs.State.{PathState, end_at}
use Rattle.path_store.specs.declared.lines.LineAction.{LineAction}
use Rattle.path_store.specs.declared.lines.LineAction.TheVariants as actions

-- what is to be acknowledged is a place, and how much more is taken a window
abbrev pub IsAckBounded : Reply → Type 0
IsAckBounded (replies.Reassembly (reassembly_replies.Ack next window)) = (next ≤ 2 ^ 62 + 2 ^ 20) × (window ≤ 1048576)
IsAckBounded _ = Unit {0}

-- a piece has octets, and fits in a segment beside forty octets of options
pub record IsSendable (piece : List ℕ) : Type 0 where
  pub some : 0 < length piece
  pub most : length piece ≤ 65475

abbrev pub IsGrantSendable : Option Grant → Type 0
IsGrantSendable None = Unit {0}
IsGrantSendable (Some grant) = IsSendable grant.piece

-- what was granted can be sent, where it was asked for
abbrev pub IsGrantFit : {C : Type 0} → Duty → Reply → PathState C → Type 0
IsGrantFit (duties.Step (step_duties.Data s)) r p = is_some (first_unsent (end_at s p)) ≡ false → IsGrantSendable (grant_in r)
IsGrantFit (duties.Step (step_duties.Look s)) r p = Unit {0}
IsGrantFit (duties.Step step_duties.Events) r p = Unit {0}
IsGrantFit (duties.Step (step_duties.Heard s index)) r p = Unit {0}
IsGrantFit (duties.Step (step_duties.PlainAck s)) r p = Unit {0}
IsGrantFit (duties.Step (step_duties.Unmapped s)) r p = Unit {0}
IsGrantFit (duties.Ask d) r p = Unit {0}
IsGrantFit (duties.Send d) r p = Unit {0}
IsGrantFit (duties.Silent d) r p = Unit {0}
IsGrantFit duties.End r p = Unit {0}

-- bytes that are to be placed are the only ones that a path asks with
abbrev pub asks_bytes : Duty → Bool
asks_bytes (duties.Ask (ask_duties.Edge s)) = true
asks_bytes (duties.Ask ask_duties.JoinAgain) = false
asks_bytes (duties.Ask (ask_duties.Window s)) = false
asks_bytes (duties.Ask (ask_duties.SynHeard s)) = false
asks_bytes (duties.Ask (ask_duties.SynAnswered s)) = false
asks_bytes (duties.Ask (ask_duties.PlainHandshake s)) = false
asks_bytes (duties.Ask (ask_duties.PeerKey s)) = false
asks_bytes (duties.Ask (ask_duties.JoinHeard s)) = false
asks_bytes (duties.Ask (ask_duties.Opened s)) = false
asks_bytes (duties.Ask (ask_duties.Live s)) = false
asks_bytes (duties.Ask (ask_duties.AckHeard s)) = false
asks_bytes (duties.Ask (ask_duties.FailHeard s)) = false
asks_bytes (duties.Ask (ask_duties.SubflowAck s)) = false
asks_bytes (duties.Ask (ask_duties.PlainData s)) = false
asks_bytes (duties.Ask (ask_duties.GoIdentity s)) = false
asks_bytes (duties.Ask (ask_duties.CheckFailed s)) = false
asks_bytes (duties.Ask (ask_duties.HeardFin s index)) = false
asks_bytes (duties.Ask (ask_duties.SubflowFin s)) = false
asks_bytes (duties.Ask (ask_duties.AckOut s)) = false
asks_bytes (duties.Ask (ask_duties.Rate s)) = false
asks_bytes (duties.Ask (ask_duties.Return s)) = false
asks_bytes (duties.Ask (ask_duties.LeaveNoted s)) = false
asks_bytes (duties.Ask (ask_duties.AbortSend s)) = false
asks_bytes (duties.Ask (ask_duties.AbortReceive s)) = false
asks_bytes (duties.Ask (ask_duties.Announce s id)) = false
asks_bytes (duties.Ask (ask_duties.Withdraw s id)) = false
asks_bytes (duties.Ask (ask_duties.BreakAck s reason)) = false
asks_bytes (duties.Ask (ask_duties.Leave s)) = false
asks_bytes (duties.Ask (ask_duties.Dead s)) = false
asks_bytes (duties.Step d) = false
asks_bytes (duties.Send d) = false
asks_bytes (duties.Silent d) = false
asks_bytes duties.End = false

abbrev pub asks_bytes_first : List Duty → Bool
asks_bytes_first [] = false
asks_bytes_first (d ∷ ds) = asks_bytes d

-- the rows of all paths are in range
abbrev pub AreRowsInRange : Reply → Type 0
AreRowsInRange (replies.Control (control_replies.Rows rows)) = All IsInRange rows
AreRowsInRange _ = Unit {0}

-- a line has something to be noted to the peer
abbrev pub notes_by : LineAction → Bool
notes_by actions.Die = false
notes_by (actions.Prio s backup) = true
notes_by (actions.Announce s id) = false
notes_by (actions.Withdraw s id) = false

-- a copy arrives, or a line has something to be noted
abbrev pub event_needs_memory : Option Event → Bool
event_needs_memory None = false
event_needs_memory (Some (happenings.Joins tick)) = false
event_needs_memory (Some (happenings.Takes line)) = notes_by line.action
event_needs_memory (Some (happenings.Arrives due)) = true
event_needs_memory (Some (happenings.Fires s tick)) = false

-- the reply to a duty needs memory where a segment is sent or may be, bytes were granted, a copy arrives, or something is to be
-- noted to the peer
abbrev pub needs_memory : {C : Type 0} → Duty → Reply → PathState C → Bool
needs_memory (duties.Step (step_duties.Data s)) r p = is_some (first_unsent (end_at s p)) || is_some (grant_in r)
needs_memory (duties.Step (step_duties.Look s)) r p = queues_in r (end_at s p)
needs_memory (duties.Step step_duties.Events) r p = event_needs_memory (next_event p)
needs_memory (duties.Step (step_duties.Heard s index)) r p = true
needs_memory (duties.Step (step_duties.PlainAck s)) r p = true
needs_memory (duties.Step (step_duties.Unmapped s)) r p = true
needs_memory (duties.Ask d) r p = false
needs_memory (duties.Send d) r p = true
needs_memory (duties.Silent d) r p = false
needs_memory duties.End r p = false

abbrev pub needs_memory_first : {C : Type 0} → List Duty → Reply → PathState C → Bool
needs_memory_first [] r p = false
needs_memory_first (d ∷ ds) r p = needs_memory d r p
