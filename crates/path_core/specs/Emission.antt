-- What an end sends by itself: its SYN, records and grants as long as there is room; and on which occasion it answers or sends
-- again.
use Rattle.std.specs.Prelude.{ℕ, ◌-◌, Bool, ◌&&◌, not, ◌||◌, nat_le, if◌then◌else◌, List, Option, [], Some, None, length, find, slice_get}
use Rattle.subflow_send.specs.Records.{Record}
use Rattle.subflow_send.specs.Rules.{is_unsent, after_push}
use Rattle.sides.specs.declared.side.Side.{Side}
use Rattle.path_segments.specs.Spelled.{PlainSegment}
use Rattle.subflow_tcp.specs.declared.segments.Occasion.TheVariants as to_send
use Rattle.subflow_tcp.specs.State.{EndState, is_at_limit, has_records}
use Rattle.subflow_tcp.specs.Sizes.{room}
use Rattle.subflow_tcp.specs.States.{may_finish, is_closed_to_segments}
use Rattle.send_book.specs.declared.call.Span.{Span}
use Rattle.send_book.specs.declared.call.SendCall.TheVariants as send_calls
use Rattle.actor_desk.specs.declared.ask.Ask.{Ask}
use Rattle.actor_desk.specs.declared.ask.Ask.TheVariants as asks
use Rattle.path_store.specs.declared.granted_piece.GrantedPiece.{GrantedPiece}
use Rattle.seq_units.specs.declared.mapping.Mapping.{Mapping}
use Rattle.send_book.specs.declared.call.SendReply.TheVariants as send_replies
use Rattle.actor_desk.specs.declared.ask.Reply.{Reply}
use Rattle.actor_desk.specs.declared.ask.Reply.TheVariants as replies
use Rattle.subflow_tcp.specs.declared.segments.Occasion.{Occasion}
use Rattle.subflow_tcp.specs.declared.segments.Outgoing.{Outgoing}
use Rattle.subflow_tcp.specs.Emitting.{reset_segment}
use Rattle.path_core.specs.End.{PathEnd}
use Rattle.path_core.specs.OptionsOut.{record_or_ack, is_syn_unsent, ack_said, syn_ack_said, segment_of, carried_said}
use Rattle.path_core.specs.State.{PathState, end_at, path_of, goes_on, left}
use Rattle.path_core.specs.Handover.{having_sent, sends, sent_on}
use Rattle.path_core.specs.Profile.{Profile}
use Rattle.path_core.specs.MpJoin.{is_joined}
use Rattle.path_core.specs.Choices.{is_side_a}
use Rattle.path_core.specs.Codec.{Codec}
use Rattle.path_core.specs.DataFin.{after_granted, after_refusal, is_data_fin_owed}
use Rattle.path_core.specs.DssOut.{mapping_of}
use Rattle.path_core.specs.Sending.{Sending}

-- ---- records

-- the first record that is to be sent
abbrev pub first_unsent : PathEnd → Option Record
first_unsent e = find is_unsent e.tcp.send.records

-- the segment of the first record that is to be sent; an acknowledgement where there is none
abbrev pub unsent_segment : {C : Type 0} → Side → PathState C → PlainSegment
unsent_segment s p = record_or_ack p.profile s (first_unsent (end_at s p)) (end_at s p)

abbrev pub having_sent_unsent : {C : Type 0} → Side → PathState C → PathEnd
having_sent_unsent s p = having_sent to_send.Unsent p.clock (unsent_segment s p) (end_at s p)

-- the SYN of the end that opens, which was never sent
abbrev pub is_syn_due : PathEnd → Bool
is_syn_due e = is_syn_unsent e

-- once the own SYN is acknowledged records are sent that the congestion window has room for
abbrev pub fits : EndState → Record → Bool
fits s r = nat_le 1 s.send.una && nat_le (length r.piece) (room s)

-- ---- grants

-- octets of the payload of a full segment
abbrev pub payload_size : Profile → ℕ
payload_size c = c.mss - 28

-- the end may send a DSS, or needs none after a fallback, or it is the one that opened the connection
abbrev pub may_send_data : Profile → Side → PathEnd → Bool
may_send_data c s e = e.modes.clear || (e.modes.identity || (is_side_a s && not (is_joined c)))

-- both SYNs are acknowledged, no FIN was sent, there is room for a full segment, positions are left, and data may be sent
abbrev pub may_ask : Profile → Side → PathEnd → Bool
may_ask c s e =
    may_finish e.tcp.state && (nat_le (payload_size c) (room e.tcp) && (not (is_at_limit e.tcp) && may_send_data c s e))

-- the first unsent record is to fit; without one the end is to be one that may ask for bytes
abbrev pub data_stands : Profile → Side → PathEnd → Option Record → Bool
data_stands c s e (Some r) = not (is_closed_to_segments e.tcp.state) && fits e.tcp r
data_stands c s e None = may_ask c s e

-- what was granted
pub record Grant : Type 0 where
  pub span : Span
  pub piece : List ℕ

-- the send book is asked for a full segment's payload at most, and told whether the path is a standby
abbrev pub grant_ask : {C : Type 0} → Side → PathState C → Ask
grant_ask s p = asks.Send s (send_calls.Grant (path_of p) (payload_size p.profile) (end_at s p).modes.standby)

-- an unsent record goes out before more bytes are asked for
abbrev pub data_ask : {C : Type 0} → Codec C → Side → Option Record → PathState C → Ask
data_ask k s (Some r) p = sends k s (unsent_segment s p) p
data_ask k s None p = grant_ask s p

-- what was granted, from this position on
abbrev pub granted_at : ℕ → Span → GrantedPiece
granted_at position span = record { position = position; from = span.from; to = span.to }

-- the piece is to be sent with this mapping
abbrev pub with_piece : Span → List ℕ → Mapping → PathEnd → PathEnd
with_piece span piece mapping e = record e {
  tcp = record e.tcp { send = after_push piece mapping e.tcp.send };
  sending = after_granted (granted_at e.tcp.send.nxt span) e.sending;
}

-- the granted piece is to be sent, with one mapping for ever
abbrev pub granted : Profile → Side → Span → List ℕ → PathEnd → PathEnd
granted c s span piece e = with_piece span piece (mapping_of c s span.from e.tcp.send.nxt piece) e

abbrev pub grant_in : Reply → Option Grant
grant_in (replies.Send (send_replies.Granted span piece)) = Some (record { span = span; piece = piece })
grant_in _ = None

-- what a refusal tells of the own stream
abbrev pub refused_in : Reply → Sending → Sending
refused_in (replies.Send (send_replies.NoGrant why known)) v = after_refusal why known v
refused_in _ v = v

abbrev pub refused : Reply → PathEnd → PathEnd
refused r e = record e { sending = refused_in r e.sending }

-- a refusal ends the asking
abbrev pub answered_grant : {C : Type 0} → Side → Option Grant → Reply → PathState C → PathState C
answered_grant s (Some grant) r p = goes_on s (granted p.profile s grant.span grant.piece (end_at s p)) p.agenda p
answered_grant s None r p = goes_on s (refused r (end_at s p)) (left p) p

-- what is sent leaves the duty where it is, so that the next record is sent, or the next bytes are asked for
abbrev pub answered_data : {C : Type 0} → Codec C → Side → Option Record → Reply → PathState C → PathState C
answered_data k s (Some r) reply p = sent_on k s (unsent_segment s p) (having_sent_unsent s p) p.agenda p
answered_data k s None reply p = answered_grant s (grant_in reply) reply p

abbrev pub answered_syn : {C : Type 0} → Codec C → Side → PathState C → PathState C
answered_syn k s p = sent_on k s (unsent_segment s p) (having_sent_unsent s p) (left p) p

-- ---- answers

-- the first record that isn't acknowledged
abbrev pub first_record : PathEnd → Option Record
first_record e = slice_get e.tcp.send.records 0

-- the segment of the first record that isn't acknowledged; an acknowledgement where there is none
abbrev pub first_segment : {C : Type 0} → Side → PathState C → PlainSegment
first_segment s p = record_or_ack p.profile s (first_record (end_at s p)) (end_at s p)

abbrev pub answered_again : {C : Type 0} → Codec C → Side → PathState C → PathState C
answered_again k s p =
    sent_on k s (first_segment s p) (having_sent to_send.First p.clock (first_segment s p) (end_at s p)) (left p) p

-- an end whose SYN isn't acknowledged answers by its SYN/ACK
abbrev pub answer_occasion : PathEnd → Occasion
answer_occasion e = if e.tcp.due.syn_ack then to_send.SynAck else to_send.Ack

-- the SYN/ACK, or an acknowledgement at SND.NXT
abbrev pub answer_said : Profile → Side → PathEnd → PlainSegment
answer_said c s e = if e.tcp.due.syn_ack then syn_ack_said c s e else ack_said c s e.tcp.send.nxt None e

abbrev pub answer_of : {C : Type 0} → Side → PathState C → PlainSegment
answer_of s p = answer_said p.profile s (end_at s p)

abbrev pub answered_answer : {C : Type 0} → Codec C → Side → PathState C → PathState C
answered_answer k s p =
    let e = end_at s p in sent_on k s (answer_of s p) (having_sent (answer_occasion e) p.clock (answer_of s p) e) (left p) p

-- the reset that answers a copy at a dead end
abbrev pub outgoing_or : Option Outgoing → Outgoing → Outgoing
outgoing_or (Some outgoing) other = outgoing
outgoing_or None other = other

-- the reset, without options, that a dead end sends for a copy
abbrev pub dead_answer : {C : Type 0} → Side → PathState C → PlainSegment
dead_answer s p = let e = end_at s p in segment_of p.profile (outgoing_or e.treated.answer (reset_segment e.tcp)) [] [] e

-- the end itself doesn't change
abbrev pub answered_dead : {C : Type 0} → Codec C → Side → PathState C → PathState C
answered_dead k s p = sent_on k s (dead_answer s p) (end_at s p) (left p) p

-- ---- what an expiry sends again

-- the first record; without one the third MP_JOIN, MP_FASTCLOSE or the DATA_FIN, where that isn't answered; else what a peer that
-- is there answers
abbrev pub resend_occasion : PathEnd → Occasion
resend_occasion e =
    if has_records e.tcp then to_send.First
    else (if e.modes.owes_third || (e.notices.fast_closed || is_data_fin_owed e) then to_send.Ack else to_send.Probe)

-- an acknowledgement with what isn't answered; where nothing is open, the probe, one position before SND.UNA
abbrev pub ack_resent : Profile → Side → PathEnd → PlainSegment
ack_resent c s e =
    if e.modes.owes_third then ack_said c s e.tcp.send.nxt None e
    else (if e.notices.fast_closed then carried_said c s e.notices.carrier e
    else (if is_data_fin_owed e then ack_said c s e.tcp.send.nxt e.sending.known_end e
    else ack_said c s (e.tcp.send.una - 1) None e))

-- the first record, or such an acknowledgement
abbrev pub resend_said : Profile → Side → PathEnd → PlainSegment
resend_said c s e = if has_records e.tcp then record_or_ack c s (first_record e) e else ack_resent c s e

abbrev pub resend_of : {C : Type 0} → Side → PathState C → PlainSegment
resend_of s p = resend_said p.profile s (end_at s p)

abbrev pub answered_resend : {C : Type 0} → Codec C → Side → PathState C → PathState C
answered_resend k s p =
    let e = end_at s p in sent_on k s (resend_of s p) (having_sent (resend_occasion e) p.clock (resend_of s p) e) (left p) p
