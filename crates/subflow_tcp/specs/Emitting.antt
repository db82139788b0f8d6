-- What an end sends next, why, and what the sending makes of it (RFC 9293, section 3.10; RFC 5681, section 3).
use Rattle.std.specs.Prelude.{ℕ, ◌-◌, Bool, true, false, ◌&&◌, ◌==◌, nat_le, if◌then◌else◌, is_some, Option, Some, None, List, [], length, find, slice_get}
use Rattle.std.specs.List.{list_any}
use Rattle.std.specs.Option.{option_map, option_map_or}
use Rattle.segment_wire.specs.declared.head.Head.{Head}
use Rattle.subflow_send.specs.declared.record.RecordKind.{RecordKind}
use Rattle.subflow_send.specs.declared.record.RecordKind.TheVariants.{Syn, Data, Fin}
use Rattle.subflow_send.specs.Records.{Record, SendState}
use Rattle.subflow_send.specs.Rules.{is_unsent, is_fin, is_new_fin, stands_at, after_sent, after_resent, after_fin_sent}
use Rattle.subflow_tcp.specs.declared.segments.Occasion.{Occasion}
use Rattle.subflow_tcp.specs.declared.segments.Occasion.TheVariants as to_send
use Rattle.subflow_tcp.specs.declared.segments.Outgoing.{Outgoing}
use Rattle.subflow_tcp.specs.declared.segments.Emission.{Emission}
use Rattle.subflow_tcp.specs.States.{is_closed_to_segments, is_opening}
use Rattle.subflow_tcp.specs.Spelling.{said}
use Rattle.subflow_tcp.specs.State.{EndState, has_records}
use Rattle.subflow_tcp.specs.Sizes.{room}

-- ---- segments
-- a segment that acknowledges what has come, and nothing more
abbrev pub ack_at : ℕ → EndState → Outgoing
ack_at pos s = record { position = pos; acknowledged = Some s.recv.edge; syn = false; fin = false; rst = false; length = 0 }

-- the reset of an end stands at SND.NXT and acknowledges nothing
abbrev pub reset_segment : EndState → Outgoing
reset_segment s = record { position = s.send.nxt; acknowledged = None; syn = false; fin = false; rst = true; length = 0 }

-- the SYN/ACK stands at position 0
abbrev pub syn_ack_segment : EndState → Outgoing
syn_ack_segment s = record (ack_at 0 s) { syn = true }

-- the position of the FIN, also before it is pushed
abbrev pub fin_position : SendState → ℕ
fin_position v = if v.finished then v.nxt - 1 else v.nxt

-- the FIN at its position, with an acknowledgement of what has come
abbrev pub fin_segment : EndState → Outgoing
fin_segment s = record (ack_at (fin_position s.send) s) { fin = true }

-- all but the SYN of the end that opens acknowledge
abbrev pub acknowledged_in : EndState → Option ℕ
acknowledged_in s = if is_opening s.state then None else Some s.recv.edge

abbrev pub is_syn : RecordKind → Bool
is_syn Syn = true
is_syn Data = false
is_syn Fin = false

-- a record as a segment
abbrev pub record_segment : EndState → Record → Outgoing
record_segment s r = record {
  position = r.pos;
  acknowledged = acknowledged_in s;
  syn = is_syn r.kind;
  fin = is_fin r.kind;
  rst = false;
  length = length r.piece;
}

-- the segment of an occasion, by positions; the answer of a dead end has none
abbrev pub segment_for : Occasion → EndState → Option Outgoing
segment_for to_send.Reset s = Some (reset_segment s)
segment_for to_send.Answer s = None
segment_for to_send.SynAck s = Some (syn_ack_segment s)
segment_for to_send.Ack s = Some (ack_at s.send.nxt s)
segment_for to_send.Probe s = Some (ack_at (s.send.una - 1) s)
segment_for to_send.First s = option_map (record_segment s) (slice_get s.send.records 0)
segment_for to_send.Unsent s = option_map (record_segment s) (find is_unsent s.send.records)
segment_for to_send.Fin s = Some (fin_segment s)

-- ---- with numbers
-- the answer of a dead end stands at no position
abbrev pub answer_said : Head → Emission
answer_said head = record { head = head; pos = 0; length = 0 }

-- the segment of an occasion with its numbers; the answer of a dead end as it is kept
abbrev pub emission_for : Occasion → EndState → Option Emission
emission_for to_send.Answer s = option_map answer_said s.due.answer
emission_for to_send.Reset s = option_map (said s.numbers) (segment_for to_send.Reset s)
emission_for to_send.SynAck s = option_map (said s.numbers) (segment_for to_send.SynAck s)
emission_for to_send.Ack s = option_map (said s.numbers) (segment_for to_send.Ack s)
emission_for to_send.Probe s = option_map (said s.numbers) (segment_for to_send.Probe s)
emission_for to_send.First s = option_map (said s.numbers) (segment_for to_send.First s)
emission_for to_send.Unsent s = option_map (said s.numbers) (segment_for to_send.Unsent s)
emission_for to_send.Fin s = option_map (said s.numbers) (segment_for to_send.Fin s)

-- ---- the order
-- before the SYN is acknowledged nothing but the SYN goes out, and then what the congestion window has room for
abbrev pub may_go : EndState → Record → Bool
may_go s r = if s.send.una == 0 then is_syn r.kind else nat_le (length r.piece) (room s)

-- a record is to be sent, and the first such may go
abbrev pub is_unsent_due : EndState → Bool
is_unsent_due s = option_map_or (may_go s) (find is_unsent s.send.records) false

-- the first record that is to be sent, or else a FIN that was never sent
abbrev pub next_record : EndState → Option Occasion
next_record s =
    if is_unsent_due s then Some to_send.Unsent
    else (if list_any is_new_fin s.send.records then Some to_send.Fin else None)

-- SYN/ACK, acknowledgement and probe go before records, and the first record again before those that are to be sent
abbrev pub next_owed : EndState → Option Occasion
next_owed s =
    if s.due.syn_ack then Some to_send.SynAck
    else (if s.due.ack then Some to_send.Ack
    else (if s.due.probe then Some to_send.Probe
    else (if s.due.first && has_records s then Some to_send.First
    else next_record s)))

-- a reset goes first, then the answer of a dead end; an end that sends no record sends nothing else
abbrev pub next_occasion : EndState → Option Occasion
next_occasion s =
    if s.due.reset then Some to_send.Reset
    else (if is_some s.due.answer then Some to_send.Answer
    else (if is_closed_to_segments s.state then None
    else next_owed s))

abbrev pub emission_of : Option Occasion → EndState → Option Emission
emission_of None s = None
emission_of (Some occasion) s = emission_for occasion s

-- what goes out next, if anything does
abbrev pub next_emission : EndState → Option Emission
next_emission s = emission_of (next_occasion s) s

-- ---- the sending
-- another sending of the SYN, while it isn't acknowledged
abbrev pub syn_resent : ℕ → SendState → SendState
syn_resent now v = if v.una == 0 then after_resent now v else v

-- what was sent is due no more, and a record counts one sending more
abbrev pub after_sending : Occasion → ℕ → EndState → EndState
after_sending to_send.Reset now s = record s { due = record s.due { reset = false } }
after_sending to_send.Answer now s = record s { due = record s.due { answer = None } }
after_sending to_send.SynAck now s = record s { due = record s.due { syn_ack = false }; send = syn_resent now s.send }
after_sending to_send.Ack now s = record s { due = record s.due { ack = false } }
after_sending to_send.Probe now s = record s { due = record s.due { probe = false } }
after_sending to_send.First now s = record s { due = record s.due { first = false }; send = after_resent now s.send }
after_sending to_send.Unsent now s = record s { send = after_sent now s.send }
after_sending to_send.Fin now s = record s { send = after_fin_sent now s.send }

-- the end after a segment was sent at an occasion, where there is one
abbrev pub after_emitting : Option Occasion → ℕ → EndState → EndState
after_emitting None now s = s
after_emitting (Some occasion) now s = after_sending occasion now s

-- what is due next is sent
abbrev pub after_emission : ℕ → EndState → EndState
after_emission now s = after_emitting (next_occasion s) now s

-- ---- the octets
abbrev pub piece_of : Record → List ℕ
piece_of r = r.piece

-- a segment's octets are those of the record at its position; a segment of no octets has none
abbrev pub payload_of : Emission → EndState → List ℕ
payload_of e s = if e.length == 0 then [] else option_map_or piece_of (find (stands_at e.pos) s.send.records) []
