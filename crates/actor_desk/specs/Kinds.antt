-- The replies that a call can have, whatever book gives them.
use Rattle.std.specs.Prelude.{ℕ, ◌≡◌, ◌+◌, ◌≤◌, List, length, Option, Some, None}
use Rattle.send_book.specs.declared.call.SendCall.{SendCall}
use Rattle.send_book.specs.declared.call.SendCall.TheVariants as send_calls
use Rattle.send_book.specs.declared.call.SendReply.{SendReply}
use Rattle.send_book.specs.declared.call.SendReply.TheVariants as send_replies
use Rattle.reassembly_book.specs.declared.call.ReassemblyCall.{ReassemblyCall}
use Rattle.reassembly_book.specs.declared.call.ReassemblyCall.TheVariants as reassembly_calls
use Rattle.reassembly_book.specs.declared.call.ReassemblyReply.{ReassemblyReply}
use Rattle.reassembly_book.specs.declared.call.ReassemblyReply.TheVariants as reassembly_replies
use Rattle.control_book.specs.declared.call.ControlCall.{ControlCall}
use Rattle.control_book.specs.declared.call.ControlCall.TheVariants as control_calls
use Rattle.control_book.specs.declared.call.ControlReply.{ControlReply}
use Rattle.control_book.specs.declared.call.ControlReply.TheVariants as control_replies
use Rattle.send_book.specs.State.{Tile}
use Rattle.send_book.specs.Steps.{CanAsk}
use Rattle.reassembly_book.specs.Steps as arriving
use Rattle.control_book.specs.Calls.{can_ask}
use Rattle.actor_desk.specs.Desk.{SixBooks, reply_of}
use Rattle.actor_desk.specs.declared.ask.Ask.{Ask}
use Rattle.actor_desk.specs.declared.ask.Ask.TheVariants as asks
use Rattle.actor_desk.specs.declared.ask.Reply.{Reply}
use Rattle.actor_desk.specs.declared.ask.Reply.TheVariants as replies

-- some bytes, and no more than were asked for
pub record IsSomeOf (max : ℕ) (bytes : List ℕ) : Type 0 where
  pub some : 1 ≤ length bytes
  pub most : length bytes ≤ max

-- as many as there are places from one to another
pub record IsSpanOf (from to : ℕ) (bytes : List ℕ) : Type 0 where
  pub whole : from + length bytes ≡ to

-- no more is taken than was offered; a piece has bytes, and as many as its places
abbrev pub IsSendKind : SendCall → SendReply → Type 0
IsSendKind (send_calls.Write bytes) (send_replies.Taken count) = count ≤ length bytes
IsSendKind (send_calls.Write bytes) send_replies.Shut = Unit {0}
IsSendKind send_calls.Close send_replies.Closed = Unit {0}
IsSendKind send_calls.Close send_replies.Shut = Unit {0}
IsSendKind (send_calls.Grant path max standby) (send_replies.Granted span piece) = IsSomeOf max piece × IsSpanOf span.from span.to piece
IsSendKind (send_calls.Grant path max standby) (send_replies.NoGrant why known_end) = Unit {0}
IsSendKind (send_calls.AckIn next window) (send_replies.Acked bytes fin) = Unit {0}
IsSendKind (send_calls.AckIn next window) (send_replies.AckFuture written) = Unit {0}
IsSendKind (send_calls.Return path) (send_replies.Returned count) = Unit {0}
IsSendKind send_calls.GoIdentity send_replies.Noted = Unit {0}
IsSendKind (send_calls.GoInfinite path) (send_replies.Infinite from) = Unit {0}
IsSendKind (send_calls.GoInfinite path) send_replies.Scattered = Unit {0}
IsSendKind send_calls.Abort send_replies.Noted = Unit {0}
IsSendKind _ _ = ⊥

-- a read gives some bytes, and no more than were asked for
abbrev pub IsReassemblyKind : ReassemblyCall → ReassemblyReply → Type 0
IsReassemblyKind (reassembly_calls.Place at bytes) (reassembly_replies.Placed count) = Unit {0}
IsReassemblyKind (reassembly_calls.Place at bytes) (reassembly_replies.Beyond edge) = Unit {0}
IsReassemblyKind (reassembly_calls.Place at bytes) (reassembly_replies.FinClash fin told) = Unit {0}
IsReassemblyKind (reassembly_calls.Fin at) reassembly_replies.FinSet = Unit {0}
IsReassemblyKind (reassembly_calls.Fin at) (reassembly_replies.FinClash fin told) = Unit {0}
IsReassemblyKind (reassembly_calls.Read max) (reassembly_replies.Bytes bytes) = IsSomeOf max bytes
IsReassemblyKind (reassembly_calls.Read max) reassembly_replies.End = Unit {0}
IsReassemblyKind (reassembly_calls.Read max) reassembly_replies.NoneYet = Unit {0}
IsReassemblyKind (reassembly_calls.Read max) (reassembly_replies.Aborted by_peer) = Unit {0}
IsReassemblyKind reassembly_calls.AckOut (reassembly_replies.Ack next window) = Unit {0}
IsReassemblyKind (reassembly_calls.Abort by_peer) reassembly_replies.Noted = Unit {0}
IsReassemblyKind _ _ = ⊥

-- each call has replies of its own; what these carry stands open
abbrev pub IsControlKind : ControlCall → ControlReply → Type 0
IsControlKind (control_calls.Look path) (control_replies.Standing mode standby sole notice) = Unit {0}
IsControlKind (control_calls.PeerKey key) control_replies.Noted = Unit {0}
IsControlKind (control_calls.Keys own peer) control_replies.Noted = Unit {0}
IsControlKind (control_calls.Keys own peer) (control_replies.KeysDiffer key) = Unit {0}
IsControlKind (control_calls.Fell path event) (control_replies.Verdict verdict) = Unit {0}
IsControlKind (control_calls.JoinBegin path) (control_replies.Begin own peer) = Unit {0}
IsControlKind (control_calls.JoinBegin path) control_replies.NotYet = Unit {0}
IsControlKind (control_calls.JoinBegin path) (control_replies.Never mode) = Unit {0}
IsControlKind (control_calls.JoinHeard path token) (control_replies.Begin own peer) = Unit {0}
IsControlKind (control_calls.JoinHeard path token) (control_replies.UnknownToken own) = Unit {0}
IsControlKind (control_calls.JoinHeard path token) control_replies.NotConfirmed = Unit {0}
IsControlKind (control_calls.JoinHeard path token) (control_replies.Fallen mode) = Unit {0}
IsControlKind (control_calls.Live path backup) control_replies.Noted = Unit {0}
IsControlKind (control_calls.Dead path) control_replies.Noted = Unit {0}
IsControlKind (control_calls.Backup path on) control_replies.Noted = Unit {0}
IsControlKind (control_calls.Rate path window rtt) (control_replies.Rows rows) = Unit {0}
IsControlKind (control_calls.Announce id) control_replies.Noted = Unit {0}
IsControlKind (control_calls.Withdraw id) control_replies.Noted = Unit {0}
IsControlKind (control_calls.Heard id address port hmac) control_replies.Echo = Unit {0}
IsControlKind (control_calls.Heard id address port hmac) control_replies.BadHmac = Unit {0}
IsControlKind (control_calls.Heard id address port hmac) control_replies.Known = Unit {0}
IsControlKind (control_calls.Echoed id) control_replies.Noted = Unit {0}
IsControlKind (control_calls.Removed id) control_replies.Noted = Unit {0}
IsControlKind control_calls.FastClose control_replies.Noted = Unit {0}
IsControlKind (control_calls.FastHeard key) control_replies.Stopped = Unit {0}
IsControlKind (control_calls.FastHeard key) (control_replies.OtherKey own) = Unit {0}
IsControlKind _ _ = ⊥

-- the reply is one that the ask can have
abbrev pub IsOfKind : Ask → Reply → Type 0
IsOfKind (asks.Send s call) (replies.Send reply) = IsSendKind call reply
IsOfKind (asks.Reassembly s call) (replies.Reassembly reply) = IsReassemblyKind call reply
IsOfKind (asks.Control s call) (replies.Control reply) = IsControlKind call reply
IsOfKind (asks.Local step) replies.Done = Unit {0}
IsOfKind _ _ = ⊥

-- the reply answers what was asked; where nothing was asked, no reply does
abbrev pub AnswersTo : Option Ask → Reply → Type 0
AnswersTo None reply = ⊥
AnswersTo (Some ask) reply = IsOfKind ask reply

-- ---- what the books answer is of the kind

-- both send books are sound
pub record AreTiled (books : SixBooks) : Type 0 where
  pub a : Tile books.send_a
  pub b : Tile books.send_b

-- a call meets the conditions of its book
abbrev pub CanBeAsked : Ask → Type 0
CanBeAsked (asks.Send s call) = CanAsk call
CanBeAsked (asks.Reassembly s call) = arriving.CanAsk call
CanBeAsked (asks.Control s call) = can_ask call
CanBeAsked (asks.Local step) = Unit {0}

-- where both send books are sound, a call that meets its conditions is answered by a reply that it can have
abbrev pub BooksAnswerInKind : Type 0
BooksAnswerInKind = (books : SixBooks) (x : Ask) → AreTiled books → CanBeAsked x → IsOfKind x (reply_of books x)
