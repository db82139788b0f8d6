-- Addresses and priority (RFC 8684, sections 3.3.8 and 3.4): what an end has to note to its peer goes out, what the peer notes is
-- told to the side, and an echo is owed for it.
use Rattle.std.specs.Prelude.{ℕ, Bool, ◌&&◌, not, true, false, if◌then◌else◌, List, ◌++◌, Option, [], Some, unwrap_or, ◌∷◌, None}
use Rattle.actor_desk.specs.Words.{is_nil}
use Rattle.sides.specs.declared.side.Side.{Side}
use Rattle.path_segments.specs.Spelled.{PlainSegment}
use Rattle.path_agenda.specs.Words.{first_of}
use Rattle.subflow_tcp.specs.declared.segments.Occasion.TheVariants as to_send
use Rattle.control_book.specs.declared.call.ControlCall.{ControlCall}
use Rattle.control_book.specs.declared.call.ControlCall.TheVariants as control_calls
use Rattle.path_agenda.specs.declared.notice.PeerNotice.{PeerNotice}
use Rattle.path_agenda.specs.declared.notice.PeerNotice.TheVariants as notes
use Rattle.actor_desk.specs.declared.ask.Ask.{Ask}
use Rattle.actor_desk.specs.declared.ask.Ask.TheVariants as asks
use Rattle.control_book.specs.declared.call.ControlReply.TheVariants as control_replies
use Rattle.actor_desk.specs.declared.ask.Reply.{Reply}
use Rattle.actor_desk.specs.declared.ask.Reply.TheVariants as replies
use Rattle.path_agenda.specs.declared.notice.OwnNotice.{OwnNotice}
use Rattle.path_agenda.specs.declared.notice.OwnNotice.TheVariants as own
use Rattle.key_material.specs.declared.address.Address.{Address}
use Rattle.path_segments.specs.declared.segment.PathOption.TheVariants.{AddAddr}
use Rattle.path_agenda.specs.declared.heard.Heard.{Heard}
use Rattle.path_agenda.specs.declared.heard.Heard.TheVariants as says
use Rattle.subflow_tcp.specs.States.{is_dead}
use Rattle.path_core.specs.End.{PathEnd}
use Rattle.path_core.specs.Standing.{may_note}
use Rattle.path_core.specs.OptionsOut.{noted_said}
use Rattle.path_core.specs.State.{PathState, end_at, path_of, goes_on, left}
use Rattle.path_core.specs.Notices.{without_first}
use Rattle.path_core.specs.Handover.{having_sent, sent_on}
use Rattle.path_core.specs.Codec.{Codec}

-- ---- what is to be noted goes out

-- there is something, and the end can note it now
abbrev pub is_note_due : PathEnd → Bool
is_note_due e = may_note e && not (is_nil e.notices.queue)

-- the first of what is to be noted
abbrev pub note_of : {C : Type 0} → Side → PathState C → PlainSegment
note_of s p = noted_said p.profile s (first_of (end_at s p).notices.queue) (end_at s p)

abbrev pub with_noted : PathEnd → PathEnd
with_noted e = record e { notices = without_first e.notices }

abbrev pub having_noted : {C : Type 0} → Side → PathState C → PathEnd
having_noted s p = with_noted (having_sent to_send.Ack p.clock (note_of s p) (end_at s p))

-- what was noted leaves the duty where it is, so that the next is noted
abbrev pub answered_note : {C : Type 0} → Codec C → Side → PathState C → PathState C
answered_note k s p = sent_on k s (note_of s p) (having_noted s p) p.agenda p

-- ---- what the peer notes

-- on the path of this number; an address without a port has port 0
abbrev pub notice_call : ℕ → PeerNotice → ControlCall
notice_call path (notes.AddAddr id address port hmac) = control_calls.Heard id address (unwrap_or port 0) hmac
notice_call path (notes.AddEcho id) = control_calls.Echoed id
notice_call path (notes.Removed id) = control_calls.Removed id
notice_call path (notes.Prio backup) = control_calls.Backup path backup

-- what the peer noted on this path is told to the side
abbrev pub notice_ask : {C : Type 0} → Side → PeerNotice → PathState C → Ask
notice_ask s notice p = asks.Control s (notice_call (path_of p) notice)

-- the side keeps the address, now or since before
abbrev pub is_kept : Reply → Bool
is_kept (replies.Control control_replies.Echo) = true
is_kept (replies.Control control_replies.Known) = true
is_kept _ = false

-- an announcement that the side keeps is to be echoed behind all others, with the id, the address and the port of the copy
abbrev pub with_echo : PeerNotice → Reply → List OwnNotice → List OwnNotice
with_echo (notes.AddAddr id address port hmac) r queue = if is_kept r then queue ++ own.AddEcho id address port ∷ [] else queue
with_echo (notes.AddEcho id) r queue = queue
with_echo (notes.Removed id) r queue = queue
with_echo (notes.Prio backup) r queue = queue

abbrev pub after_peer_notice : PeerNotice → Reply → PathEnd → PathEnd
after_peer_notice notice r e = record e { notices = record e.notices { queue = with_echo notice r e.notices.queue } }

abbrev pub answered_notice : {C : Type 0} → Side → PeerNotice → Reply → PathState C → PathState C
answered_notice s notice r p = goes_on s (after_peer_notice notice r (end_at s p)) (left p) p

-- ---- an address that is to be announced or taken back

abbrev pub announce_ask : Side → ℕ → Ask
announce_ask s id = asks.Control s (control_calls.Announce id)

abbrev pub withdraw_ask : Side → ℕ → Ask
withdraw_ask s id = asks.Control s (control_calls.Withdraw id)

-- ---- what an ADD_ADDR or a REMOVE_ADDR says

-- an address that is announced, or the echo of an announcement (RFC 8684, section 3.4.1)
abbrev pub address_items : Bool → ℕ → Address → Option ℕ → Option ℕ → List Heard
address_items true id address port hmac = says.Notice (notes.AddEcho id) ∷ []
address_items false id address port (Some hmac) = says.Notice (notes.AddAddr id address port hmac) ∷ []
address_items false id address port None = []

-- an address that is taken back, one for each id
abbrev pub item_removed : ℕ → Heard
item_removed id = says.Notice (notes.Removed id)

-- ---- priority

-- the priority is to be told to the peer, unless the end is dead (RFC 8684, section 3.3.8)
abbrev pub with_priority : Bool → PathEnd → PathEnd
with_priority backup e =
    let queue = e.notices.queue in
    record e { notices = record e.notices { queue = (if is_dead e.tcp.state then queue else queue ++ own.Prio backup ∷ []) } }
