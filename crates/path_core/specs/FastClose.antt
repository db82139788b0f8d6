-- The fast close (RFC 8684, section 3.5): MP_FASTCLOSE goes out at the end that carries it, the peer's is heard, and an end is reset
-- as its side told it.
use Rattle.std.specs.Prelude.{ℕ, Bool, true, false, not, ◌&&◌, ◌||◌, if◌then◌else◌}
use Rattle.sides.specs.declared.side.Side.{Side}
use Rattle.path_segments.specs.Spelled.{PlainSegment}
use Rattle.send_book.specs.declared.call.SendCall.TheVariants as send_calls
use Rattle.reassembly_book.specs.declared.call.ReassemblyCall.TheVariants as reassembly_calls
use Rattle.control_book.specs.declared.call.ControlCall.TheVariants as control_calls
use Rattle.control_book.specs.declared.call.ControlReply.TheVariants as control_replies
use Rattle.subflow_tcp.specs.declared.handshake.State.{State as EndPhase}
use Rattle.subflow_tcp.specs.declared.handshake.State.TheVariants as phase
use Rattle.subflow_tcp.specs.declared.segments.Occasion.TheVariants as to_send
use Rattle.subflow_tcp.specs.States.{is_closed_to_segments}
use Rattle.actor_desk.specs.declared.ask.Ask.{Ask}
use Rattle.actor_desk.specs.declared.ask.Ask.TheVariants as asks
use Rattle.actor_desk.specs.declared.ask.Reply.{Reply}
use Rattle.actor_desk.specs.declared.ask.Reply.TheVariants as replies
use Rattle.path_agenda.specs.declared.duty.Duty.TheVariants as duties
use Rattle.path_agenda.specs.declared.duty.AskDuty.TheVariants as ask_duties
use Rattle.path_agenda.specs.Agenda.{stops}
use Rattle.path_agenda.specs.Words.{replaced}
use Rattle.path_core.specs.Codec.{Codec}
use Rattle.path_core.specs.End.{PathEnd, died}
use Rattle.path_core.specs.Notices.{is_carried}
use Rattle.path_core.specs.OptionsOut.{carried_said}
use Rattle.path_core.specs.Handover.{sent_on, having_sent}
use Rattle.path_core.specs.Standing.{is_connected}
use Rattle.path_core.specs.State.{PathState, end_at, goes_on, left, with_agenda}

-- ---- the reset that the side told

-- the end never sent a segment
abbrev pub is_silent : EndPhase → Bool
is_silent phase.Waiting = true
is_silent phase.Listen = true
is_silent _ = false

-- an end that is to be reset and never sent a segment dies without one
abbrev pub leaves_silently : PathEnd → Bool
leaves_silently e = is_silent e.tcp.state && e.notices.reset

-- an end that is to be reset and takes segments sends its reset first
abbrev pub resets_noted : PathEnd → Bool
resets_noted e = not (is_closed_to_segments e.tcp.state) && e.notices.reset

-- what the end held was given back: it is dead, and the control book is told next
abbrev pub answered_leave_noted : {C : Type 0} → Side → PathState C → PathState C
answered_leave_noted s p = goes_on s (died (end_at s p)) (replaced (duties.Ask (ask_duties.Dead s)) p.agenda) p

-- ---- MP_FASTCLOSE goes out

-- MP_FASTCLOSE was never sent, both SYNs are acknowledged, and the end may send a DSS, or fell back
abbrev pub is_fast_close_due : PathEnd → Bool
is_fast_close_due e = is_connected e.tcp.state && (is_carried e.notices && (e.modes.clear || e.modes.identity))

-- MP_FASTCLOSE with the key that the end carries
abbrev pub fast_close_of : {C : Type 0} → Side → PathState C → PlainSegment
fast_close_of s p = carried_said p.profile s (end_at s p).notices.carrier (end_at s p)

abbrev pub with_fast_closed : PathEnd → PathEnd
with_fast_closed e = record e { notices = record e.notices { fast_closed = true } }

abbrev pub having_fast_closed : {C : Type 0} → Side → PathState C → PathEnd
having_fast_closed s p = with_fast_closed (having_sent to_send.Ack p.clock (fast_close_of s p) (end_at s p))

abbrev pub answered_fast_close : {C : Type 0} → Codec C → Side → PathState C → PathState C
answered_fast_close k s p = sent_on k s (fast_close_of s p) (having_fast_closed s p) (left p) p

-- ---- the peer's is heard

-- the control book is told the key of the peer's MP_FASTCLOSE
abbrev pub fast_heard_ask : Side → ℕ → Ask
fast_heard_ask s key = asks.Control s (control_calls.FastHeard key)

-- the key is the side's own
abbrev pub is_stopped_by : Reply → Bool
is_stopped_by (replies.Control control_replies.Stopped) = true
is_stopped_by _ = false

-- by the side's own key both books are told, and the end is reset; another key is passed over
abbrev pub answered_fast_heard : {C : Type 0} → Side → Reply → PathState C → PathState C
answered_fast_heard s r p = with_agenda (if is_stopped_by r then stops s else left p) p

-- the send book is told that the connection is aborted
abbrev pub abort_send_ask : Side → Ask
abort_send_ask s = asks.Send s send_calls.Abort

-- the reassembly book is told that the peer ended the connection at once
abbrev pub abort_receive_ask : Side → Ask
abort_receive_ask s = asks.Reassembly s (reassembly_calls.Abort true)
