-- What each duty of a path may ask.
use Rattle.std.specs.Prelude.{◌≡◌, ℕ, Bool, true, false}
use Rattle.sides.specs.declared.side.Side.{Side}
use Rattle.control_book.specs.declared.call.ControlCall.{ControlCall}
use Rattle.control_book.specs.declared.call.ControlCall.TheVariants as control_calls
use Rattle.reassembly_book.specs.declared.call.ReassemblyCall.{ReassemblyCall}
use Rattle.reassembly_book.specs.declared.call.ReassemblyCall.TheVariants as reassembly_calls
use Rattle.send_book.specs.declared.call.SendCall.{SendCall}
use Rattle.send_book.specs.declared.call.SendCall.TheVariants as send_calls
use Rattle.actor_desk.specs.declared.ask.Ask.{Ask}
use Rattle.actor_desk.specs.declared.ask.Ask.TheVariants as asks
use Rattle.actor_desk.specs.declared.ask.LocalStep.{LocalStep}
use Rattle.actor_desk.specs.declared.ask.LocalStep.TheVariants as steps
use Rattle.path_agenda.specs.declared.duty.Duty.{Duty}
use Rattle.path_agenda.specs.declared.duty.Duty.TheVariants as duties
use Rattle.path_agenda.specs.declared.duty.AskDuty.{AskDuty}
use Rattle.path_agenda.specs.declared.duty.AskDuty.TheVariants as ask_duties
use Rattle.path_agenda.specs.declared.duty.StepDuty.{StepDuty}
use Rattle.path_agenda.specs.declared.duty.StepDuty.TheVariants as step_duties
use Rattle.path_core.specs.Emission.{payload_size}
use Rattle.path_core.specs.State.{PathState, path_of}

-- the kinds of asks that may be made
pub record May : Type 0 where
  -- the control book is asked how side and path stand
  pub look : Bool
  -- the control book is told a key, or both
  pub keys : Bool
  -- the control book is told what happened of Multipath TCP
  pub fell : Bool
  -- the control book is asked whether the path may join
  pub joins : Bool
  -- the control book is told that the path lives or is dead
  pub lives : Bool
  -- the control book is told what the peer notes, or its fast close
  pub notes : Bool
  -- the control book is told of an address that is announced or taken back
  pub addresses : Bool
  -- the control book is told window and round-trip time
  pub rate : Bool
  -- the send book is asked for bytes
  pub grant : Bool
  -- the send book is told an acknowledgement
  pub ack_in : Bool
  -- bytes are given back to the send book
  pub returns : Bool
  -- the send book is told that the side fell back
  pub falls : Bool
  -- the send book is to give itself to the path alone
  pub alone : Bool
  -- a book is told of the fast close
  pub stops : Bool
  -- the reassembly book is given bytes
  pub place : Bool
  -- the reassembly book is told the end of the stream
  pub fin : Bool
  -- the reassembly book is asked what is to be acknowledged
  pub ack_out : Bool
  -- an event is told
  pub happens : Bool
  -- a segment is told
  pub sent : Bool

-- ---- the kind of an ask

abbrev pub may_tell : May → ControlCall → Bool
may_tell m (control_calls.Look path) = m.look
may_tell m (control_calls.PeerKey key) = m.keys
may_tell m (control_calls.Keys own peer) = m.keys
may_tell m (control_calls.Fell path event) = m.fell
may_tell m (control_calls.JoinBegin path) = m.joins
may_tell m (control_calls.JoinHeard path token) = m.joins
may_tell m (control_calls.Live path backup) = m.lives
may_tell m (control_calls.Dead path) = m.lives
may_tell m (control_calls.Backup path on) = m.notes
may_tell m (control_calls.Rate path window rtt) = m.rate
may_tell m (control_calls.Announce id) = m.addresses
may_tell m (control_calls.Withdraw id) = m.addresses
may_tell m (control_calls.Heard id address port hmac) = m.notes
may_tell m (control_calls.Echoed id) = m.notes
may_tell m (control_calls.Removed id) = m.notes
may_tell m (control_calls.FastHeard key) = m.notes
may_tell m control_calls.FastClose = false

abbrev pub may_send : May → SendCall → Bool
may_send m (send_calls.Grant path max standby) = m.grant
may_send m (send_calls.AckIn next window) = m.ack_in
may_send m (send_calls.Return path) = m.returns
may_send m send_calls.GoIdentity = m.falls
may_send m (send_calls.GoInfinite path) = m.alone
may_send m send_calls.Abort = m.stops
may_send m (send_calls.Write bytes) = false
may_send m send_calls.Close = false

abbrev pub may_reassemble : May → ReassemblyCall → Bool
may_reassemble m (reassembly_calls.Place at bytes) = m.place
may_reassemble m (reassembly_calls.Fin at) = m.fin
may_reassemble m reassembly_calls.AckOut = m.ack_out
may_reassemble m (reassembly_calls.Abort by_peer) = m.stops
may_reassemble m (reassembly_calls.Read max) = false

abbrev pub may_step : May → LocalStep → Bool
may_step m (steps.Arrive to copy) = m.happens
may_step m (steps.Fire s) = m.happens
may_step m (steps.Line number) = m.happens
may_step m (steps.Sent from copy length sum) = m.sent
may_step m steps.End = true

-- the ask is of one of the kinds, or ends the turn
abbrev pub may : May → Ask → Bool
may m (asks.Control s call) = may_tell m call
may m (asks.Send s call) = may_send m call
may m (asks.Reassembly s call) = may_reassemble m call
may m (asks.Local step) = may_step m step

-- ---- what a duty asks

abbrev pub none : May
none = record {
  look = false;
  keys = false;
  fell = false;
  joins = false;
  lives = false;
  notes = false;
  addresses = false;
  rate = false;
  grant = false;
  ack_in = false;
  returns = false;
  falls = false;
  alone = false;
  stops = false;
  place = false;
  fin = false;
  ack_out = false;
  happens = false;
  sent = false;
}

-- what a path is broken by
abbrev pub breaks : May
breaks = record none { ack_out = true; sent = true }

abbrev pub asks_of_books : AskDuty → May
asks_of_books ask_duties.JoinAgain = record none { joins = true }
asks_of_books (ask_duties.Window s) = record none { ack_out = true }
asks_of_books (ask_duties.SynHeard s) = record none { ack_in = true }
asks_of_books (ask_duties.SynAnswered s) = record none { ack_in = true }
asks_of_books (ask_duties.PlainHandshake s) = record none { fell = true }
asks_of_books (ask_duties.PeerKey s) = record none { fell = true; keys = true }
asks_of_books (ask_duties.JoinHeard s) = record none { joins = true }
asks_of_books (ask_duties.Opened s) = record none { fell = true; keys = true }
asks_of_books (ask_duties.Live s) = record none { lives = true }
asks_of_books (ask_duties.AckHeard s) = record none { fell = true }
asks_of_books (ask_duties.FailHeard s) = record none { fell = true }
asks_of_books (ask_duties.SubflowAck s) = record none { ack_in = true }
asks_of_books (ask_duties.PlainData s) = record none { fell = true }
asks_of_books (ask_duties.GoIdentity s) = record none { falls = true }
asks_of_books (ask_duties.Edge s) = record none { place = true }
asks_of_books (ask_duties.CheckFailed s) = record none { fell = true }
asks_of_books (ask_duties.HeardFin s index) = record none { fin = true }
asks_of_books (ask_duties.SubflowFin s) = record none { fin = true }
asks_of_books (ask_duties.AckOut s) = record none { ack_out = true }
asks_of_books (ask_duties.Rate s) = record none { rate = true }
asks_of_books (ask_duties.Return s) = record none { returns = true }
asks_of_books (ask_duties.AbortSend s) = record none { stops = true }
asks_of_books (ask_duties.AbortReceive s) = record none { stops = true }
asks_of_books (ask_duties.Announce s id) = record none { addresses = true }
asks_of_books (ask_duties.Withdraw s id) = record none { addresses = true }
asks_of_books (ask_duties.LeaveNoted s) = record none { returns = true }
asks_of_books (ask_duties.BreakAck s reason) = record none { ack_out = true }
asks_of_books (ask_duties.Leave s) = record none { returns = true }
asks_of_books (ask_duties.Dead s) = record none { lives = true }

abbrev pub asks_of_steps : StepDuty → May
asks_of_steps (step_duties.Look s) = record none { look = true }
asks_of_steps (step_duties.Data s) = record none { grant = true; sent = true }
asks_of_steps step_duties.Events = record none { joins = true; happens = true }
asks_of_steps (step_duties.Heard s index) = record breaks { keys = true; fell = true; notes = true; ack_in = true; alone = true }
asks_of_steps (step_duties.PlainAck s) = record breaks { fell = true }
asks_of_steps (step_duties.Unmapped s) = breaks

abbrev pub asking : Duty → May
asking (duties.Ask d) = asks_of_books d
asking (duties.Step d) = asks_of_steps d
asking (duties.Send d) = record none { sent = true }
asking (duties.Silent d) = none
asking duties.End = none

-- ---- at which book, and of which path

-- of the books those of this side alone
abbrev pub IsAt : Side → Ask → Type 0
IsAt s (asks.Control t call) = t ≡ s
IsAt s (asks.Send t call) = t ≡ s
IsAt s (asks.Reassembly t call) = t ≡ s
IsAt s (asks.Local step) = Unit {0}

abbrev pub IsOwnCall : ℕ → ControlCall → Type 0
IsOwnCall own (control_calls.Look path) = path ≡ own
IsOwnCall own (control_calls.Fell path event) = path ≡ own
IsOwnCall own (control_calls.JoinBegin path) = path ≡ own
IsOwnCall own (control_calls.JoinHeard path token) = path ≡ own
IsOwnCall own (control_calls.Live path backup) = path ≡ own
IsOwnCall own (control_calls.Dead path) = path ≡ own
IsOwnCall own (control_calls.Backup path on) = path ≡ own
IsOwnCall own (control_calls.Rate path window rtt) = path ≡ own
IsOwnCall own _ = Unit {0}

-- an ask that names a path names this one, and one for bytes asks for a full segment's payload
abbrev pub IsOwn : {C : Type 0} → PathState C → Ask → Type 0
IsOwn p (asks.Control t call) = IsOwnCall (path_of p) call
IsOwn p (asks.Send t (send_calls.Grant path max standby)) = (path ≡ path_of p) × (max ≡ payload_size p.profile)
IsOwn p (asks.Send t (send_calls.Return path)) = path ≡ path_of p
IsOwn p (asks.Send t (send_calls.GoInfinite path)) = path ≡ path_of p
IsOwn p _ = Unit {0}

-- an ask of one of these kinds, at the books of this side, and of the path itself
pub record IsAsked {C : Type 0} (p : PathState C) (s : Side) (m : May) (x : Ask) : Type 0 where
  pub kind : may m x ≡ true
  pub side : IsAt s x
  pub own : IsOwn p x
