-- The start of a turn: how the side stands, what is to be acknowledged, and whether the window's growth is to be told.
use Rattle.std.specs.Prelude.{ℕ, ◌+◌, ◌-◌, ◌*◌, min, Bool, true, false, not, ◌&&◌, nat_le, if◌then◌else◌, None, List}
use Rattle.sides.specs.declared.side.Side.{Side}
use Rattle.path_segments.specs.Laws.{window_told}
use Rattle.path_segments.specs.Spelled.{PlainSegment}
use Rattle.reassembly_book.specs.declared.call.ReassemblyCall.TheVariants as reassembly_calls
use Rattle.reassembly_book.specs.declared.call.ReassemblyReply.TheVariants as reassembly_replies
use Rattle.control_book.specs.declared.call.ControlCall.TheVariants as control_calls
use Rattle.control_book.specs.declared.call.ControlReply.TheVariants as control_replies
use Rattle.subflow_tcp.specs.declared.handshake.State.{State as EndPhase}
use Rattle.subflow_tcp.specs.declared.handshake.State.TheVariants as phase
use Rattle.subflow_tcp.specs.declared.segments.Occasion.TheVariants as to_send
use Rattle.subflow_tcp.specs.States.{is_dead}
use Rattle.actor_desk.specs.declared.ask.Ask.{Ask}
use Rattle.actor_desk.specs.declared.ask.Ask.TheVariants as asks
use Rattle.actor_desk.specs.declared.ask.Reply.{Reply}
use Rattle.actor_desk.specs.declared.ask.Reply.TheVariants as replies
use Rattle.path_agenda.specs.declared.duty.Duty.{Duty}
use Rattle.path_core.specs.Codec.{Codec}
use Rattle.path_core.specs.declared.modes.Modes.{Modes}
use Rattle.path_core.specs.End.{PathEnd}
use Rattle.path_core.specs.Notices.{Notices, after_notice, queues}
use Rattle.path_store.specs.Receiving.{Receiving}
use Rattle.path_core.specs.OptionsOut.{ack_said}
use Rattle.path_core.specs.Handover.{having_sent, sent_on}
use Rattle.path_core.specs.State.{PathState, end_at, goes_on, left, path_of}
use Rattle.path_core.specs.Profile.{Profile}

-- ---- Look

-- both SYNs are acknowledged, and the end isn't dead
abbrev pub is_connected : EndPhase → Bool
is_connected phase.Waiting = false
is_connected phase.Listen = false
is_connected phase.SynSent = false
is_connected phase.SynReceived = false
is_connected phase.Dead = false
is_connected _ = true

-- the control book is asked how the side and the path stand
abbrev pub look_ask : {C : Type 0} → Side → PathState C → Ask
look_ask s p = asks.Control s (control_calls.Look (path_of p))

-- the mode, and how the path stands among the others
abbrev pub modes_told : Reply → Modes → Modes
modes_told (replies.Control (control_replies.Standing mode standby sole notice)) m =
    record m { mode = mode; standby = standby; sole = sole }
modes_told _ m = m

-- the end can note something to the peer: both SYNs are acknowledged, and it may send a DSS
abbrev pub may_note : PathEnd → Bool
may_note e = is_connected e.tcp.state && (e.modes.clear && not e.modes.identity)

-- a dead end does nothing with a notice
abbrev pub notices_told : Reply → PathEnd → Notices
notices_told (replies.Control (control_replies.Standing mode standby sole notice)) e =
    if is_dead e.tcp.state then e.notices else after_notice notice (may_note e) e.notices
notices_told _ e = e.notices

-- something is to be noted to the peer
abbrev pub queues_in : Reply → PathEnd → Bool
queues_in (replies.Control (control_replies.Standing mode standby sole notice)) e = not (is_dead e.tcp.state) && queues notice (may_note e)
queues_in _ e = false

-- the mode, the standing and the notice are the end's from now on
abbrev pub after_look : Reply → PathEnd → PathEnd
after_look r e = record e { modes = modes_told r e.modes; notices = notices_told r e }

abbrev pub answered_look : {C : Type 0} → Side → Reply → PathState C → PathState C
answered_look s r p = goes_on s (after_look r (end_at s p)) (left p) p

-- ---- what is to be acknowledged

-- the reassembly book is asked
abbrev pub ack_out_ask : Side → Ask
ack_out_ask s = asks.Reassembly s reassembly_calls.AckOut

-- the next place that is wanted, and how many bytes are taken from there on
abbrev pub window_in : Reply → Receiving → Receiving
window_in (replies.Reassembly (reassembly_replies.Ack next window)) v = record v { next = next; window = window }
window_in _ v = v

-- the end was told what is to be acknowledged, and nothing of that is left to be asked
abbrev pub after_ack_out : Reply → PathEnd → PathEnd
after_ack_out r e = record e { receiving = window_in r e.receiving; treated = record e.treated { asked = false } }

-- the end was told what is to be acknowledged, and these duties come next
abbrev pub answered_ack_out : {C : Type 0} → Side → Reply → List Duty → PathState C → PathState C
answered_ack_out s r ds p = goes_on s (after_ack_out r (end_at s p)) ds p

-- ---- the window update

-- the edge of the window that a segment could tell, in steps of 32 octets
abbrev pub tellable_edge : PathEnd → ℕ
tellable_edge e = e.receiving.next + window_told false e.receiving.window

-- The window grew by half the buffer, or by two segments.
abbrev pub has_grown : Profile → PathEnd → Bool
has_grown c e = nat_le (min c.buffer (4 * c.mss)) (2 * (tellable_edge e - e.receiving.told_edge))

-- a connected end tells a window that has grown so
abbrev pub is_update_due : Profile → PathEnd → Bool
is_update_due c e = is_connected e.tcp.state && has_grown c e

-- ---- an acknowledgement at SND.NXT

abbrev pub ack_segment : {C : Type 0} → Side → PathState C → PlainSegment
ack_segment s p = ack_said p.profile s (end_at s p).tcp.send.nxt None (end_at s p)

abbrev pub acknowledges : {C : Type 0} → Codec C → Side → PathState C → PathState C
acknowledges k s p =
    sent_on k s (ack_segment s p) (having_sent to_send.Ack p.clock (ack_segment s p) (end_at s p)) (left p) p
