-- The steps of an application: it writes its file, says that it writes no more, and reads what has come.
use Rattle.std.specs.Prelude.{ℕ, ◌+◌, ◌-◌, ◌==◌, Bool, true, false, not, ◌&&◌, ◌||◌, nat_lt, if◌then◌else◌, Option, Some, None, List, [], ◌∷◌, length, take, drop}
use Rattle.send_book.specs.declared.call.SendCall.TheVariants as send_calls
use Rattle.send_book.specs.declared.call.SendReply.TheVariants as send_replies
use Rattle.reassembly_book.specs.declared.call.ReassemblyCall.TheVariants as reassembly_calls
use Rattle.reassembly_book.specs.declared.call.ReassemblyReply.TheVariants as reassembly_replies
use Rattle.control_book.specs.declared.call.ControlCall.TheVariants as control_calls
use Rattle.actor_desk.specs.declared.ask.Ask.{Ask}
use Rattle.actor_desk.specs.declared.ask.Ask.TheVariants as asks
use Rattle.actor_desk.specs.declared.ask.LocalStep.TheVariants as steps
use Rattle.actor_desk.specs.declared.ask.Reply.{Reply}
use Rattle.actor_desk.specs.declared.ask.Reply.TheVariants as replies
use Rattle.stream_apps.specs.declared.duty.AppDuty.{AppDuty}
use Rattle.stream_apps.specs.declared.duty.AppDuty.TheVariants.{FastClose, AbortSend, AbortReceive, Write, Close, Read, End}
use Rattle.stream_apps.specs.Apps.{AppState}
use Rattle.actor_desk.specs.Words.{is_nil, tail_of}

-- the duties of a turn, in their order
abbrev pub start_of_app : List AppDuty
start_of_app = FastClose ∷ AbortSend ∷ AbortReceive ∷ Write ∷ Close ∷ Read ∷ End ∷ []

-- the application stops the connection in this round
abbrev pub is_due : Option ℕ → Bool
is_due (Some rounds) = rounds == 0
is_due None = false

-- the rounds that end before the stop, one round later; none once the stop came
abbrev pub a_round_less : Option ℕ → Option ℕ
a_round_less (Some rounds) = if rounds == 0 then None else Some (rounds - 1)
a_round_less None = None

-- in the round in which it stops the connection it does so first; it writes as long as its file has some left, then closes once,
-- and reads until it was told the end
abbrev pub app_stands : AppDuty → AppState → Bool
app_stands FastClose a = is_due a.stops_in
app_stands AbortSend a = is_due a.stops_in
app_stands AbortReceive a = is_due a.stops_in
app_stands Write a = not (is_nil a.rest)
app_stands Close a = is_nil a.rest && not a.closed
app_stands Read a = not a.told
app_stands End a = true

-- the next bytes of its file: at most as many as a side buffers are offered at once
abbrev pub offered : AppState → List ℕ
offered a = take a.buffer a.rest

-- what a duty asks of the side's books; a read asks for 65,536 octets at most
abbrev pub app_ask : AppDuty → AppState → Ask
app_ask FastClose a = asks.Control a.side control_calls.FastClose
app_ask AbortSend a = asks.Send a.side send_calls.Abort
app_ask AbortReceive a = asks.Reassembly a.side (reassembly_calls.Abort false)
app_ask Write a = asks.Send a.side (send_calls.Write (offered a))
app_ask Close a = asks.Send a.side send_calls.Close
app_ask Read a = asks.Reassembly a.side (reassembly_calls.Read 65536)
app_ask End a = asks.Local steps.End

-- the duties behind the first one
abbrev pub app_left : AppState → List AppDuty
app_left a = tail_of a.agenda

-- the first duty is done
abbrev pub app_done : AppState → AppState
app_done a = record a { agenda = app_left a }

-- how many octets of its file were taken
abbrev pub taken_in : Reply → ℕ
taken_in (replies.Send (send_replies.Taken count)) = count
taken_in _ = 0

-- what was taken of its file is written
abbrev pub app_wrote : Reply → AppState → AppState
app_wrote r a = record (app_done a) { rest = drop (taken_in r) a.rest }

-- the octets that were read
abbrev pub bytes_in : Reply → List ℕ
bytes_in (replies.Reassembly (reassembly_replies.Bytes bytes)) = bytes
bytes_in _ = []

-- the stream ended, or was aborted
abbrev pub ends_in : Reply → Bool
ends_in (replies.Reassembly reassembly_replies.End) = true
ends_in (replies.Reassembly (reassembly_replies.Aborted by_peer)) = true
ends_in _ = false

-- the application reads on where bytes came, and too few of them in this turn
abbrev pub app_reads_on : List ℕ → AppState → Bool
app_reads_on bytes a = not (is_nil bytes) && nat_lt (a.count + length bytes) a.buffer

-- what was read is counted, and the end is noted; it reads on, or the duty is done
abbrev pub app_read : Reply → AppState → AppState
app_read r a = record a {
  count = a.count + length (bytes_in r);
  told = a.told || ends_in r;
  agenda = (if app_reads_on (bytes_in r) a then a.agenda else app_left a);
}

-- what the reply to this duty makes of it
abbrev pub app_answered : AppDuty → Reply → AppState → AppState
app_answered FastClose r a = app_done a
app_answered AbortSend r a = app_done a
app_answered AbortReceive r a = app_done a
app_answered Write r a = app_wrote r a
app_answered Close r a = record (app_done a) { closed = true }
app_answered Read r a = app_read r a
app_answered End r a = record a { agenda = [] }

-- the agenda from the first of these duties on that comes to something
abbrev pub app_settled : List AppDuty → AppState → AppState
app_settled [] a = record a { agenda = [] }
app_settled (d ∷ ds) a = if app_stands d a then record a { agenda = d ∷ ds } else app_settled ds a

-- what the first of these duties asks
abbrev pub app_asks_first : List AppDuty → AppState → Option Ask
app_asks_first [] a = None
app_asks_first (d ∷ ds) a = Some (app_ask d a)

-- what the application asks next; nothing where its turn is over
abbrev pub app_asks_of : AppState → Option Ask
app_asks_of a = app_asks_first a.agenda a

-- the ask has bytes
abbrev pub asks_bytes : List AppDuty → Bool
asks_bytes (Write ∷ ds) = true
asks_bytes _ = false

-- the first of the duties is answered
abbrev pub app_answers : List AppDuty → Reply → AppState → AppState
app_answers [] r a = a
app_answers (d ∷ ds) r a = app_answered d r a

-- duties that come to nothing are passed over
abbrev pub app_settles_down : AppState → AppState
app_settles_down a = app_settled a.agenda a

-- the application takes a reply, and stands before the next duty that comes to something
abbrev pub app_takes : Reply → AppState → AppState
app_takes r a = app_settles_down (app_answers a.agenda r a)

-- before the first duty of its next turn
abbrev pub fresh_turn : AppState → AppState
fresh_turn a = record a { count = 0; stops_in = a_round_less a.stops_in; agenda = start_of_app }

-- at the first duty of its next turn that comes to something
abbrev pub app_next_round : AppState → AppState
app_next_round a = app_settles_down (fresh_turn a)
