-- The numbers of a note are numbers of their types.
use Rattle.std.specs.Prelude.{◌≡◌, ℕ, ◌<◌, ◌≤◌, ◌^◌, List, length, Option, Some, None, All}
use Rattle.std.specs.List.{AllByRecursion}
use Rattle.fallback_state.specs.declared.fall.Verdict.{Verdict}
use Rattle.fallback_state.specs.declared.fall.Verdict.TheVariants as verdicts
use Rattle.key_material.specs.declared.address.Address.{Address}
use Rattle.key_material.specs.declared.address.Address.TheVariants as addresses
use Rattle.key_material.specs.Address.{octets_of}
use Rattle.linked_increase.specs.declared.rows.Row.{Row}
use Rattle.send_book.specs.declared.call.SendCall.{SendCall}
use Rattle.send_book.specs.declared.call.SendCall.TheVariants as send_calls
use Rattle.send_book.specs.declared.call.SendReply.{SendReply}
use Rattle.send_book.specs.declared.call.SendReply.TheVariants as send_replies
use Rattle.reassembly_book.specs.declared.call.ReassemblyCall.{ReassemblyCall}
use Rattle.reassembly_book.specs.declared.call.ReassemblyCall.TheVariants as reassembly_calls
use Rattle.reassembly_book.specs.declared.call.ReassemblyReply.{ReassemblyReply}
use Rattle.reassembly_book.specs.declared.call.ReassemblyReply.TheVariants as reassembly_replies
use Rattle.control_book.specs.declared.call.ControlCall.{ControlCall}
use Rattle.control_book.specs.declared.call.ControlCall.TheVariants as control_calls
use Rattle.control_book.specs.declared.call.ControlReply.{ControlReply}
use Rattle.control_book.specs.declared.call.ControlReply.TheVariants as control_replies
use Rattle.control_book.specs.declared.call.Notice.{Notice}
use Rattle.control_book.specs.declared.call.Notice.TheVariants as notices
use Rattle.actor_desk.specs.declared.ask.Ask.{Ask}
use Rattle.actor_desk.specs.declared.ask.Ask.TheVariants as asks
use Rattle.actor_desk.specs.declared.ask.LocalStep.{LocalStep}
use Rattle.actor_desk.specs.declared.ask.LocalStep.TheVariants as steps
use Rattle.actor_desk.specs.declared.ask.Note.{Note}
use Rattle.actor_desk.specs.declared.ask.Reply.{Reply}
use Rattle.actor_desk.specs.declared.ask.Reply.TheVariants as replies

-- a number of 64 bits, and of 8 and 16
abbrev pub IsLong : ℕ → Type 0
IsLong n = n < 2 ^ 64

abbrev pub IsByte : ℕ → Type 0
IsByte n = n < 2 ^ 8

abbrev pub IsShort : ℕ → Type 0
IsShort n = n < 2 ^ 16

abbrev pub OptionFits : Option ℕ → Type 0
OptionFits (Some n) = IsLong n
OptionFits None = Unit {0}

abbrev pub SendCallFits : SendCall → Type 0
SendCallFits (send_calls.Write bytes) = IsLong (length bytes)
SendCallFits send_calls.Close = Unit {0}
SendCallFits (send_calls.Grant path max standby) = IsLong path × IsLong max
SendCallFits (send_calls.AckIn next window) = IsLong next × IsLong window
SendCallFits (send_calls.Return path) = IsLong path
SendCallFits send_calls.GoIdentity = Unit {0}
SendCallFits (send_calls.GoInfinite path) = IsLong path
SendCallFits send_calls.Abort = Unit {0}

abbrev pub SendReplyFits : SendReply → Type 0
SendReplyFits (send_replies.Taken count) = IsLong count
SendReplyFits send_replies.Closed = Unit {0}
SendReplyFits send_replies.Shut = Unit {0}
SendReplyFits (send_replies.Granted span piece) = IsLong span.from × IsLong span.to
SendReplyFits (send_replies.NoGrant why known_end) = OptionFits known_end
SendReplyFits (send_replies.Acked bytes fin) = IsLong bytes
SendReplyFits (send_replies.AckFuture written) = IsLong written
SendReplyFits (send_replies.Returned count) = IsLong count
SendReplyFits send_replies.Noted = Unit {0}
SendReplyFits (send_replies.Infinite from) = IsLong from
SendReplyFits send_replies.Scattered = Unit {0}

abbrev pub ReassemblyCallFits : ReassemblyCall → Type 0
ReassemblyCallFits (reassembly_calls.Place at bytes) = IsLong at × IsLong (length bytes)
ReassemblyCallFits (reassembly_calls.Fin at) = IsLong at
ReassemblyCallFits (reassembly_calls.Read max) = IsLong max
ReassemblyCallFits reassembly_calls.AckOut = Unit {0}
ReassemblyCallFits (reassembly_calls.Abort by_peer) = Unit {0}

abbrev pub ReassemblyReplyFits : ReassemblyReply → Type 0
ReassemblyReplyFits (reassembly_replies.Placed count) = IsLong count
ReassemblyReplyFits (reassembly_replies.Beyond edge) = IsLong edge
ReassemblyReplyFits reassembly_replies.FinSet = Unit {0}
ReassemblyReplyFits (reassembly_replies.FinClash fin at) = IsLong fin × IsLong at
ReassemblyReplyFits (reassembly_replies.Bytes bytes) = IsLong (length bytes)
ReassemblyReplyFits reassembly_replies.End = Unit {0}
ReassemblyReplyFits reassembly_replies.NoneYet = Unit {0}
ReassemblyReplyFits (reassembly_replies.Aborted by_peer) = Unit {0}
ReassemblyReplyFits (reassembly_replies.Ack next window) = IsLong next × IsLong window
ReassemblyReplyFits reassembly_replies.Noted = Unit {0}

-- the octets of an announced address: 4 or 16
abbrev pub HasItsOctets : Address → Type 0
HasItsOctets (addresses.V4 octets) = length octets ≡ 4
HasItsOctets (addresses.V6 octets) = length octets ≡ 16

pub record AddressFits (address : Address) : Type 0 where
  pub count : HasItsOctets address
  pub octets : AllByRecursion IsByte (octets_of address)

abbrev pub HeardFits : ℕ → Address → ℕ → ℕ → Type 0
HeardFits id address port hmac = IsByte id × (AddressFits address × (IsShort port × IsLong hmac))

abbrev pub ControlCallFits : ControlCall → Type 0
ControlCallFits (control_calls.Look path) = IsLong path
ControlCallFits (control_calls.PeerKey key) = IsLong key
ControlCallFits (control_calls.Keys own peer) = IsLong own × IsLong peer
ControlCallFits (control_calls.Fell path event) = IsLong path
ControlCallFits (control_calls.JoinBegin path) = IsLong path
ControlCallFits (control_calls.JoinHeard path token) = IsLong path × IsLong token
ControlCallFits (control_calls.Live path backup) = IsLong path
ControlCallFits (control_calls.Dead path) = IsLong path
ControlCallFits (control_calls.Backup path on) = IsLong path
ControlCallFits (control_calls.Rate path window rtt) = IsLong path × (IsLong window × IsLong rtt)
ControlCallFits (control_calls.Announce id) = IsLong id
ControlCallFits (control_calls.Withdraw id) = IsLong id
ControlCallFits (control_calls.Heard id address port hmac) = HeardFits id address port hmac
ControlCallFits (control_calls.Echoed id) = IsLong id
ControlCallFits (control_calls.Removed id) = IsLong id
ControlCallFits control_calls.FastClose = Unit {0}
ControlCallFits (control_calls.FastHeard key) = IsLong key

abbrev pub VerdictFits : Verdict → Type 0
VerdictFits (verdicts.BreakPath reason) = IsLong reason
VerdictFits verdict = Unit {0}

abbrev pub NoticeFits : Notice → Type 0
NoticeFits notices.Nothing = Unit {0}
NoticeFits (notices.Announce id) = IsLong id
NoticeFits (notices.Withdraw id) = IsLong id
NoticeFits (notices.Carrier key) = IsLong key
NoticeFits notices.Reset = Unit {0}

pub record RowFits (row : Row) : Type 0 where
  pub path : IsByte row.path
  pub window : IsLong row.window
  pub rtt : IsLong row.rtt

pub record RowsFit (rows : List Row) : Type 0 where
  pub few : length rows ≤ 16
  pub each : All RowFits rows

abbrev pub ControlReplyFits : ControlReply → Type 0
ControlReplyFits (control_replies.Standing mode standby sole notice) = NoticeFits notice
ControlReplyFits control_replies.Noted = Unit {0}
ControlReplyFits (control_replies.KeysDiffer own) = IsLong own
ControlReplyFits (control_replies.Verdict verdict) = VerdictFits verdict
ControlReplyFits (control_replies.Begin own peer) = IsLong own × IsLong peer
ControlReplyFits control_replies.NotYet = Unit {0}
ControlReplyFits (control_replies.Never mode) = Unit {0}
ControlReplyFits (control_replies.UnknownToken own) = IsLong own
ControlReplyFits control_replies.NotConfirmed = Unit {0}
ControlReplyFits (control_replies.Fallen mode) = Unit {0}
ControlReplyFits (control_replies.Rows rows) = RowsFit rows
ControlReplyFits control_replies.Echo = Unit {0}
ControlReplyFits control_replies.BadHmac = Unit {0}
ControlReplyFits control_replies.Known = Unit {0}
ControlReplyFits control_replies.Stopped = Unit {0}
ControlReplyFits (control_replies.OtherKey own) = IsLong own

abbrev pub LocalFits : LocalStep → Type 0
LocalFits (steps.Arrive to copy) = IsLong copy
LocalFits (steps.Fire side) = Unit {0}
LocalFits (steps.Line number) = IsLong number
LocalFits (steps.Sent from copy length sum) = IsLong copy × (IsLong length × IsLong sum)
LocalFits steps.End = Unit {0}

abbrev pub AskFits : Ask → Type 0
AskFits (asks.Send side call) = SendCallFits call
AskFits (asks.Reassembly side call) = ReassemblyCallFits call
AskFits (asks.Control side call) = ControlCallFits call
AskFits (asks.Local step) = LocalFits step

abbrev pub ReplyFits : Reply → Type 0
ReplyFits (replies.Send reply) = SendReplyFits reply
ReplyFits (replies.Reassembly reply) = ReassemblyReplyFits reply
ReplyFits (replies.Control reply) = ControlReplyFits reply
ReplyFits replies.Done = Unit {0}

pub record NoteFits (note : Note) : Type 0 where
  pub stamp : IsLong note.stamp
  pub actor : IsByte note.actor
  pub ask : AskFits note.ask
  pub reply : ReplyFits note.reply
