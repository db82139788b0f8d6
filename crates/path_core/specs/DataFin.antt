-- The ends of both streams (RFC 8684, sections 3.3.2 and 3.3.3): which Data ACKs are news, when DATA_FIN and FIN go out, and what
-- is told of the peer's.
use Rattle.std.specs.Prelude.{ℕ, Bool, ◌==◌, ◌&&◌, not, min, max, true, ◌||◌, false, nat_lt, if◌then◌else◌, ◌++◌, Option, [], Some, is_some, ◌∷◌, None, filter}
use Rattle.std.specs.List.{list_any}
use Rattle.path_store.specs.Granted.{is_newly_heard, is_open, granted_to, is_all_acknowledged}
use Rattle.path_store.specs.declared.granted_piece.GrantedPiece.{GrantedPiece}
use Rattle.send_book.specs.declared.call.Why.{Why}
use Rattle.send_book.specs.declared.call.Why.TheVariants.{Ended, Backup, NothingFree, WindowShut}
use Rattle.subflow_tcp.specs.States.{may_finish}
use Rattle.data_close.specs.Closing as closing
use Rattle.send_book.specs.declared.call.SendReply.TheVariants as send_replies
use Rattle.actor_desk.specs.declared.ask.Reply.{Reply}
use Rattle.actor_desk.specs.declared.ask.Reply.TheVariants as replies
use Rattle.sides.specs.declared.side.Side.{Side}
use Rattle.path_segments.specs.Spelled.{PlainSegment}
use Rattle.subflow_tcp.specs.declared.segments.Occasion.TheVariants as to_send
use Rattle.subflow_tcp.specs.Emitting.{after_sending}
use Rattle.subflow_tcp.specs.Closing.{after_finishing, is_fin_next, after_passing_fin}
use Rattle.reassembly_book.specs.declared.call.ReassemblyCall.TheVariants as reassembly_calls
use Rattle.actor_desk.specs.declared.ask.Ask.{Ask}
use Rattle.actor_desk.specs.declared.ask.Ask.TheVariants as asks
use Rattle.actor_desk.specs.declared.ask.LocalStep.TheVariants as steps
use Rattle.reassembly_book.specs.declared.call.ReassemblyReply.TheVariants as reassembly_replies
use Rattle.path_core.specs.Sending.{Sending}
use Rattle.path_core.specs.Choices.{told_last, item_at}
use Rattle.path_core.specs.End.{PathEnd}
use Rattle.path_core.specs.Modes.{sends_plainly, fin_place}
use Rattle.path_core.specs.OptionsOut.{ack_said, fin_said}
use Rattle.path_core.specs.State.{PathState, end_at, left, goes_on}
use Rattle.path_core.specs.Handover.{having_sent, sent_on, with_told}
use Rattle.path_core.specs.Codec.{Codec}
use Rattle.path_core.specs.Deliver.{having_asked, refused}
use Rattle.path_core.specs.declared.modes.Modes.{Modes}

-- ---- what the peer acknowledged

-- the own DATA_FIN that was sent is acknowledged for the first time
abbrev pub is_data_fin_news : Bool → Sending → Bool
is_data_fin_news fin v = fin && (v.fin_sent && not v.close.own_acked)

-- an acknowledgement of so many bytes, with the DATA_FIN or without, covers something that this end sent for the first time
abbrev pub is_news : ℕ → Bool → Sending → Bool
is_news next fin v = list_any (is_newly_heard v.heard next) v.granted || is_data_fin_news fin v

-- bytes of the stream up to this place are acknowledged, with the DATA_FIN or without
abbrev pub after_acked : ℕ → Bool → Sending → Sending
after_acked next fin v = record v {
  heard = max v.heard next;
  granted = filter (is_open (max v.heard next)) v.granted;
  close = record v.close { own_acked = v.close.own_acked || fin };
  news = v.news || is_news next fin v;
}

-- the peer's DATA_FIN came
abbrev pub after_peer_data_fin : Sending → Sending
after_peer_data_fin v = record v { close = record v.close { peer_came = true } }

-- ---- grants

-- a piece more was granted, and the window isn't shut
abbrev pub after_granted : GrantedPiece → Sending → Sending
after_granted piece v = record v { shut = false; granted = v.granted ++ piece ∷ [] }

-- bytes are refused since the peer's window is shut
abbrev pub is_shut : Why → Bool
is_shut WindowShut = true
is_shut Ended = false
is_shut Backup = false
is_shut NothingFree = false

-- a refusal tells whether the window is shut, and perhaps where the stream ends
abbrev pub after_refusal : Why → Option ℕ → Sending → Sending
after_refusal why known v = record v { shut = is_shut why; known_end = told_last known v.known_end }

-- ---- the ends of both streams

-- a DATA_FIN is acknowledged by nothing that was heard
abbrev pub owes_data_fin : Sending → Bool
owes_data_fin v = v.fin_sent && not v.close.own_acked

-- where the side sends without mappings the subflow's FIN takes its place (section 3.7)
abbrev pub is_data_fin_owed : PathEnd → Bool
is_data_fin_owed e = not (sends_plainly e.modes) && owes_data_fin e.sending

-- the DATA_FIN is to be sent: the end is known, and it was neither sent nor acknowledged; never without mappings
abbrev pub is_data_fin_due : PathEnd → Bool
is_data_fin_due e =
    may_finish e.tcp.state && (not (sends_plainly e.modes) && (e.modes.clear
    && (is_some e.sending.known_end && (not e.sending.fin_sent && not e.sending.close.own_acked))))

-- the end is known, and no byte before it waits for its grant
abbrev pub is_all_granted : Option ℕ → Sending → Bool
is_all_granted None v = false
is_all_granted (Some end) v = max (granted_to v.granted) (min v.heard end) == end

-- The FIN is to be sent: the own DATA_FIN is acknowledged, and the peer's came; without mappings all bytes were granted.
abbrev pub is_fin_due : PathEnd → Bool
is_fin_due e =
    may_finish e.tcp.state
    && (if sends_plainly e.modes then is_all_granted e.sending.known_end e.sending else closing.may_finish e.sending.close)

-- ---- the timer

-- what the timer runs for beside the records and a join: a byte or a DATA_FIN that isn't acknowledged, or a window that is shut
abbrev pub is_waiting : PathEnd → Bool
is_waiting e = is_data_fin_owed e || (not (is_all_acknowledged e.sending.granted) || e.sending.shut)

abbrev pub with_data_fin_sent : Sending → Sending
with_data_fin_sent v = record v { fin_sent = true }

abbrev pub without_news : Sending → Sending
without_news v = record v { news = false }

-- what the end makes of a Data ACK by the send book's answer
abbrev pub acked_in : ℕ → Reply → Sending → Sending
acked_in next (replies.Send (send_replies.Acked bytes fin)) v = after_acked next fin v
acked_in next _ v = v

-- ---- DATA_FIN and FIN are sent

-- the acknowledgement that carries the DATA_FIN
abbrev pub data_fin_segment : {C : Type 0} → Side → PathState C → PlainSegment
data_fin_segment s p = ack_said p.profile s (end_at s p).tcp.send.nxt (end_at s p).sending.known_end (end_at s p)

-- the acknowledgement that carries the DATA_FIN is sent, and from now on the DATA_FIN counts as sent
abbrev pub having_sent_data_fin : {C : Type 0} → Side → PathState C → PathEnd
having_sent_data_fin s p =
    let e = having_sent to_send.Ack p.clock (data_fin_segment s p) (end_at s p) in record e { sending = with_data_fin_sent e.sending }

abbrev pub answered_data_fin_sent : {C : Type 0} → Codec C → Side → PathState C → PathState C
answered_data_fin_sent k s p = sent_on k s (data_fin_segment s p) (having_sent_data_fin s p) (left p) p

abbrev pub fin_segment_of : {C : Type 0} → Side → PathState C → PlainSegment
fin_segment_of s p = fin_said p.profile (end_at s p)

-- the FIN is pushed and sent at once
abbrev pub having_sent_fin : {C : Type 0} → Side → PathState C → PathEnd
having_sent_fin s p =
    let e = with_told (fin_segment_of s p) (end_at s p) in
    record e { tcp = after_sending to_send.Fin p.clock (after_finishing e.tcp) }

abbrev pub answered_fin : {C : Type 0} → Codec C → Side → PathState C → PathState C
answered_fin k s p = sent_on k s (fin_segment_of s p) (having_sent_fin s p) (left p) p

-- ---- the end of the peer's stream

-- the end of the stream that has this number among those to be told
abbrev pub data_fin_of : ℕ → PathEnd → Option ℕ
data_fin_of index e = item_at index e.treated.fins

-- the reassembly book is told where the peer's stream ends
abbrev pub fin_ask : Side → Option ℕ → Ask
fin_ask s None = asks.Local steps.End
fin_ask s (Some place) = asks.Reassembly s (reassembly_calls.Fin place)

abbrev pub with_peer_data_fin : PathEnd → PathEnd
with_peer_data_fin e = record e { sending = after_peer_data_fin e.sending }

abbrev pub is_fin_set : Reply → Bool
is_fin_set (replies.Reassembly reassembly_replies.FinSet) = true
is_fin_set _ = false

-- the book has the end, and the peer's DATA_FIN came
abbrev pub fin_set : {C : Type 0} → Side → PathState C → PathState C
fin_set s p = goes_on s (having_asked (with_peer_data_fin (end_at s p))) (left p) p

-- an end that the book refuses breaks the path
abbrev pub answered_fin_heard : {C : Type 0} → Side → Bool → PathState C → PathState C
answered_fin_heard s set p = if set then fin_set s p else refused s p

-- the edge moves over the subflow's FIN, which ends no stream by itself
abbrev pub after_pass_fin : PathEnd → PathEnd
after_pass_fin e = record e { tcp = (if is_fin_next e.tcp then after_passing_fin e.tcp else e.tcp) }

-- the end of the stream that a FIN stands for which the edge passed, where the peer sends without mappings
abbrev pub place_passed : Modes → Option ℕ → ℕ → Option ℕ
place_passed m None edge = None
place_passed m (Some position) edge = if nat_lt position edge then fin_place m position else None

-- the end of the stream that a passed FIN stands for, where it wasn't told yet
abbrev pub place_of_fin : PathEnd → Option ℕ
place_of_fin e = if e.receiving.fin_told then None else place_passed e.modes e.tcp.fin_at e.tcp.recv.edge

abbrev pub with_fin_told : PathEnd → PathEnd
with_fin_told e = record e { receiving = record e.receiving { fin_told = true } }

-- a FIN that the book took as the end counts as the peer's DATA_FIN, and is told no second time
abbrev pub answered_plain_fin : {C : Type 0} → Side → Bool → PathState C → PathState C
answered_plain_fin s set p =
    if set then goes_on s (having_asked (with_peer_data_fin (with_fin_told (end_at s p)))) (left p) p else refused s p
