-- Fallback to plain TCP (RFC 8684, section 3.7): what the control book is told of options that are there or missing and of failed
-- checks, its verdict, and infinite mappings both ways.
use Rattle.std.specs.Prelude.{ℕ, Bool, ◌&&◌, not, true, ◌||◌, false, nat_le, if◌then◌else◌, List, Option, Some, is_some, None}
use Rattle.sides.specs.declared.side.Side.{Side}
use Rattle.control_book.specs.declared.call.ControlCall.TheVariants as control_calls
use Rattle.fallback_state.specs.declared.fall.Event.{Event}
use Rattle.actor_desk.specs.declared.ask.Ask.{Ask}
use Rattle.actor_desk.specs.declared.ask.Ask.TheVariants as asks
use Rattle.control_book.specs.declared.call.ControlReply.TheVariants as control_replies
use Rattle.fallback_state.specs.declared.fall.Verdict.TheVariants as verdicts
use Rattle.actor_desk.specs.declared.ask.Reply.{Reply}
use Rattle.actor_desk.specs.declared.ask.Reply.TheVariants as replies
use Rattle.fallback_state.specs.declared.fall.Mode.TheVariants.{Identity}
use Rattle.fallback_state.specs.declared.fall.Event.TheVariants as events
use Rattle.path_agenda.specs.Agenda.{breaks, resets}
use Rattle.path_agenda.specs.declared.duty.Duty.{Duty}
use Rattle.path_agenda.specs.Words.{replaced}
use Rattle.path_agenda.specs.declared.duty.Duty.TheVariants as duties
use Rattle.path_agenda.specs.declared.duty.AskDuty.TheVariants as ask_duties
use Rattle.send_book.specs.declared.call.SendCall.TheVariants as send_calls
use Rattle.control_book.specs.Replies.{is_sure}
use Rattle.fallback_state.specs.Modes.{is_starting, reads_mappings}
use Rattle.path_store.specs.Counts.{one_more}
use Rattle.actor_desk.specs.declared.ask.LocalStep.TheVariants as steps
use Rattle.dss_mapping.specs.declared.kept.KeptMapping.{KeptMapping}
use Rattle.path_store.specs.Granted.{is_tail, position_of}
use Rattle.path_store.specs.declared.infinite_mapping.InfiniteMapping.{InfiniteMapping}
use Rattle.send_book.specs.declared.call.SendReply.TheVariants as send_replies
use Rattle.path_core.specs.State.{PathState, path_of, end_at, left, goes_on}
use Rattle.path_core.specs.declared.modes.Modes.{Modes}
use Rattle.path_core.specs.End.{PathEnd}
use Rattle.path_core.specs.Modes.{sends_plainly, bytes_acknowledged, sends_infinite, receives_infinite}
use Rattle.path_core.specs.MpJoin.{is_joined}
use Rattle.path_core.specs.Profile.{Profile}
use Rattle.path_core.specs.Breaking.{break_ask, answered_break}
use Rattle.path_core.specs.Codec.{Codec}
use Rattle.path_core.specs.DataFin.{acked_in}
use Rattle.path_core.specs.Sending.{Sending}
use Rattle.path_core.specs.Deliver.{failing_mapping, mapping_here, failing_by, forgotten_by}

-- the control book is told what happened on the path, and answers its verdict
abbrev pub fell_ask : {C : Type 0} → Side → Event → PathState C → Ask
fell_ask s event p = asks.Control s (control_calls.Fell (path_of p) event)

-- ---- what the end knows then

-- the verdict tells the mode; the others tell none
abbrev pub mode_in : Reply → Modes → Modes
mode_in (replies.Control (control_replies.Verdict (verdicts.Went mode))) m = record m { mode = mode }
mode_in _ m = m

-- the side fell back to plain TCP
abbrev pub is_fall : Reply → Bool
is_fall (replies.Control (control_replies.Verdict (verdicts.Went Identity))) = true
is_fall _ = false

-- where an option is missed on data or on an acknowledgement, the peer may not know of the fallback: it is told by an infinite mapping
abbrev pub fell_in : Event → Reply → Modes → Modes
fell_in events.PlainData r m = record (mode_in r m) { owes_mapping = m.owes_mapping || is_fall r }
fell_in events.PlainAck r m = record (mode_in r m) { owes_mapping = m.owes_mapping || is_fall r }
fell_in _ r m = mode_in r m

-- the end knows the mode of the verdict, and whether it owes an infinite mapping
abbrev pub after_fell : Event → Reply → PathEnd → PathEnd
after_fell event r e = record e { modes = fell_in event r e.modes }

-- ---- what is to be done then

-- a path that is broken asks once more what is to be acknowledged, where bytes or an end were told
abbrev pub breaks_by : Bool → Side → ℕ → List Duty
breaks_by asked s reason = if asked then breaks s reason else resets s reason

-- after a fall the send book is told, a path may be broken, and else the duty is done
abbrev pub fell_duties : {C : Type 0} → Side → Reply → PathState C → List Duty
fell_duties s (replies.Control (control_replies.Verdict (verdicts.Went Identity))) p =
    replaced (duties.Ask (ask_duties.GoIdentity s)) p.agenda
fell_duties s (replies.Control (control_replies.Verdict (verdicts.BreakPath reason))) p = breaks_by (end_at s p).treated.asked s reason
fell_duties s _ p = left p

-- the verdict on an event, and what follows from it
abbrev pub answered_fell : {C : Type 0} → Side → Event → Reply → PathState C → PathState C
answered_fell s event r p = goes_on s (after_fell event r (end_at s p)) (fell_duties s r p) p

-- ---- the fall

-- the send book is told that the side fell back to plain TCP
abbrev pub identity_ask : Side → Ask
identity_ask s = asks.Send s send_calls.GoIdentity

-- from now on the positions of the subflow are the places of both streams
abbrev pub in_identity : PathEnd → PathEnd
in_identity e = record e { modes = record e.modes { identity = true } }

abbrev pub answered_identity : {C : Type 0} → Side → PathState C → PathState C
answered_identity s p = goes_on s (in_identity (end_at s p)) (left p) p

-- ---- an acknowledgement without a Data ACK

-- the copy acknowledges data for the first time and has no Data ACK, though the side sends with mappings of pieces
abbrev pub lacks_data_ack : PathEnd → Bool
lacks_data_ack e = e.treated.plain_ack && not (sends_plainly e.modes)

-- An acknowledgement without a Data ACK breaks a path that joined, as long as no Data ACK covered something on it.
-- The third one without a Data ACK between them breaks the path of a side that is sure.
abbrev pub breaks_by_ack : Profile → PathEnd → Bool
breaks_by_ack c e =
    lacks_data_ack e && ((is_joined c && not e.modes.covered) || (is_sure e.modes.mode && nat_le 2 e.modes.plain_acks))

-- an acknowledgement without a Data ACK breaks the path, or is told, as long as the side isn't sure
abbrev pub plain_ack_stands : Profile → PathEnd → Bool
plain_ack_stands c e = breaks_by_ack c e || (lacks_data_ack e && is_starting e.modes.mode)

-- the path is broken for reason 6, middlebox interference (RFC 8684, section 3.6), or the control book is told
abbrev pub plain_ack_ask : {C : Type 0} → Codec C → Side → PathState C → Ask
plain_ack_ask k s p = if breaks_by_ack p.profile (end_at s p) then break_ask k s 6 p else fell_ask s events.PlainAck p

-- an acknowledgement of data without a Data ACK counts
abbrev pub with_plain_ack : PathEnd → PathEnd
with_plain_ack e =
    record e { modes = record e.modes { plain_acks = (if lacks_data_ack e then one_more e.modes.plain_acks else e.modes.plain_acks) } }

abbrev pub answered_plain_ack : {C : Type 0} → Codec C → Side → Reply → PathState C → PathState C
answered_plain_ack k s r p =
    if breaks_by_ack p.profile (end_at s p) then answered_break k s 6 r p
    else goes_on s (with_plain_ack (after_fell events.PlainAck r (end_at s p))) (fell_duties s r p) p

-- ---- an acknowledgement where the side sends without mappings

-- an acknowledgement stands for a Data ACK of all before its position (RFC 8684, section 3.7)
abbrev pub plain_next : PathEnd → Option ℕ
plain_next e = bytes_acknowledged e.modes e.treated.acknowledged

-- the subflow's acknowledgement is told as a Data ACK, unless one of the same copy was
abbrev pub subflow_ack_stands : PathEnd → Bool
subflow_ack_stands e = is_some (plain_next e) && not e.treated.data_ack_taken

-- the send book is told that so many bytes are acknowledged, with the copy's window
abbrev pub plain_ack_in : Side → Option ℕ → ℕ → Ask
plain_ack_in s None window = asks.Local steps.End
plain_ack_in s (Some next) window = asks.Send s (send_calls.AckIn next window)

abbrev pub subflow_ack_ask : Side → PathEnd → Ask
subflow_ack_ask s e = plain_ack_in s (plain_next e) e.treated.window

abbrev pub plainly_acked : Option ℕ → Reply → Sending → Sending
plainly_acked None r v = v
plainly_acked (Some next) r v = acked_in next r v

abbrev pub with_plain_acked : Reply → PathEnd → PathEnd
with_plain_acked r e = record e { sending = plainly_acked (plain_next e) r e.sending }

abbrev pub answered_subflow_ack : {C : Type 0} → Side → Reply → PathState C → PathState C
answered_subflow_ack s r p = goes_on s (with_plain_acked r (end_at s p)) (left p) p

-- ---- the payload

-- the next byte came without any option, as long as the side isn't sure
abbrev pub plain_data_stands : PathEnd → Bool
plain_data_stands e = is_some e.treated.held_edge && (not e.treated.has_option && is_starting e.modes.mode)

-- ---- a mapping whose checksum isn't that of its octets

-- a check that failed at the edge is told, as long as the peer's mappings count
abbrev pub check_failed_stands : Profile → PathEnd → Bool
check_failed_stands c e = is_some (failing_mapping c e) && reads_mappings e.modes.mode

abbrev pub check_failed_ask : {C : Type 0} → Side → PathState C → Ask
check_failed_ask s p = fell_ask s events.CheckFailed p

-- where the side goes on, acknowledgements tell the mapping; where the path is broken, its reset does
abbrev pub with_failure : Option KeptMapping → Reply → PathEnd → PathEnd
with_failure (Some kept) (replies.Control (control_replies.Verdict verdicts.SendFail)) e =
    record e { modes = record e.modes { failed_mapping = Some kept.place } }
with_failure (Some kept) (replies.Control (control_replies.Verdict (verdicts.BreakPath reason))) e =
    record e { treated = record e.treated { failed_mapping = Some kept.place } }
with_failure _ r e = e

-- the mapping's octets are forgotten, whatever the verdict
abbrev pub after_check_failed : Bool → Reply → PathEnd → PathEnd
after_check_failed checksums r e =
    let failing = failing_by checksums (mapping_here e) e.tcp in
    forgotten_by checksums (mapping_here e) (with_failure failing r (after_fell events.CheckFailed r e))

abbrev pub answered_check_failed : {C : Type 0} → Side → Reply → PathState C → PathState C
answered_check_failed s r p =
    goes_on s (after_check_failed p.profile.spelling.checksums r (end_at s p)) (fell_duties s r p) p

-- ---- MP_FAIL

-- the send book is asked only by the side's sole path
abbrev pub may_go_infinite : PathEnd → Bool
may_go_infinite e = e.modes.sole && is_tail e.sending.granted e.tcp.send.nxt

-- the send book is asked to give itself to the path alone; where that can't be, the control book is told that no infinite mapping can be
abbrev pub fail_ask : {C : Type 0} → Side → PathState C → Ask
fail_ask s p =
    if may_go_infinite (end_at s p) then asks.Send s (send_calls.GoInfinite (path_of p)) else fell_ask s (events.FailHeard false) p

-- from this place on, which the first byte has that isn't acknowledged
abbrev pub infinite_from : ℕ → PathEnd → InfiniteMapping
infinite_from place e = record { position = position_of e.tcp.send.nxt place e.sending.granted; place = place }

-- where the book gave its bytes to the path
abbrev pub infinite_in : Reply → PathEnd → Option InfiniteMapping
infinite_in (replies.Send (send_replies.Infinite from)) e = Some (infinite_from from e)
infinite_in _ e = None

-- the infinite mapping is kept until the verdict comes
abbrev pub with_infinite : Reply → PathEnd → PathEnd
with_infinite r e = record e { treated = record e.treated { infinite_mapping = infinite_in r e } }

-- what the book answered is told next
abbrev pub book_answered : {C : Type 0} → Side → Reply → PathState C → PathState C
book_answered s r p = goes_on s (with_infinite r (end_at s p)) (replaced (duties.Ask (ask_duties.FailHeard s)) p.agenda) p

-- by the send book, or by the verdict where that book wasn't asked
abbrev pub answered_fail : {C : Type 0} → Side → Reply → PathState C → PathState C
answered_fail s r p = if may_go_infinite (end_at s p) then book_answered s r p else answered_fell s (events.FailHeard false) r p

-- ---- the verdict

-- the control book is told of the MP_FAIL, and whether an infinite mapping can be sent
abbrev pub fail_heard_ask : {C : Type 0} → Side → PathState C → Ask
fail_heard_ask s p = fell_ask s (events.FailHeard (is_some (end_at s p).treated.infinite_mapping)) p

-- the side sends by an infinite mapping from now on
abbrev pub is_infinite_send : Reply → Bool
is_infinite_send (replies.Control (control_replies.Verdict (verdicts.Went mode))) = sends_infinite mode
is_infinite_send _ = false

-- by this one
abbrev pub with_own_infinite : InfiniteMapping → PathEnd → PathEnd
with_own_infinite mapping e = record e { modes = record e.modes { own_infinite = Some mapping; owes_mapping = true } }

-- by the mapping that is there, where the verdict is so
abbrev pub sending_infinite : Option InfiniteMapping → Bool → PathEnd → PathEnd
sending_infinite (Some mapping) true e = with_own_infinite mapping e
sending_infinite (Some mapping) false e = e
sending_infinite None infinite e = e

abbrev pub after_fail_heard : Reply → PathEnd → PathEnd
after_fail_heard r e =
    let mapping = e.treated.infinite_mapping in
    sending_infinite mapping (is_infinite_send r) (after_fell (events.FailHeard (is_some mapping)) r e)

abbrev pub answered_fail_heard : {C : Type 0} → Side → Reply → PathState C → PathState C
answered_fail_heard s r p = goes_on s (after_fail_heard r (end_at s p)) (fell_duties s r p) p

-- ---- the peer's infinite mapping

-- the side receives by an infinite mapping from now on
abbrev pub is_infinite_receive : Reply → Bool
is_infinite_receive (replies.Control (control_replies.Verdict (verdicts.Went mode))) = receives_infinite mode
is_infinite_receive _ = false

-- by this one, where its number means a position
abbrev pub receiving_infinite : ℕ → Option ℕ → Bool → PathEnd → PathEnd
receiving_infinite place (Some position) true e =
    record e { modes = record e.modes { peer_infinite = Some (record { position = position; place = place }) } }
receiving_infinite place (Some position) false e = e
receiving_infinite place None infinite e = e

-- the verdict on the peer's infinite mapping, and that mapping where it counts from now on
abbrev pub after_infinite : ℕ → Option ℕ → Reply → PathEnd → PathEnd
after_infinite place position r e = receiving_infinite place position (is_infinite_receive r) (after_fell events.InfiniteHeard r e)

abbrev pub answered_infinite : {C : Type 0} → Side → ℕ → Option ℕ → Reply → PathState C → PathState C
answered_infinite s place position r p = goes_on s (after_infinite place position r (end_at s p)) (fell_duties s r p) p
