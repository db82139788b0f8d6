-- What each segment that arrives makes of an end, one rule for each thing that it can mean (RFC 9293, section 3.10.7).
use Rattle.std.specs.Prelude.{ℕ, ◌+◌, Bool, true, false, not, ◌&&◌, ◌==◌, nat_lt, if◌then◌else◌, Option, Some, None, List, [], ◌∷◌, length}
use Rattle.segment_wire.specs.declared.head.Head.{Head}
use Rattle.subflow_send.specs.declared.record.AckKind.{AckKind}
use Rattle.subflow_send.specs.declared.record.AckKind.TheVariants.{New, Duplicate, Old, Future}
use Rattle.subflow_send.specs.Records.{SendState}
use Rattle.subflow_send.specs.Rules.{ack_kind, after_acknowledge, sample_of}
use Rattle.subflow_recv.specs.Receiving.{acceptance_of, new_octets, after_accept, after_hold, after_keep_held, without_held, after_forget_from}
use Rattle.subflow_tcp.specs.declared.handshake.State.TheVariants.{SynReceived, Established, Dead}
use Rattle.subflow_tcp.specs.declared.segments.Hint.{Hint}
use Rattle.subflow_tcp.specs.declared.verdicts.Meaning.{Meaning}
use Rattle.subflow_tcp.specs.declared.verdicts.Meaning.TheVariants as means
use Rattle.subflow_tcp.specs.declared.verdicts.Arrival.{Arrival}
use Rattle.subflow_tcp.specs.declared.verdicts.Arrival.TheVariants.{Dropped, AckNow, Challenge, Killed, Opened, Took}
use Rattle.loss_recovery.specs.declared.windows.Told.{Told}
use Rattle.subflow_tcp.specs.States.{is_half_open, after_handshake, after_fin_acked}
use Rattle.loss_recovery.specs.Timers.{heard, measured, rtt_told, stopped}
use Rattle.loss_recovery.specs.Windows.{acknowledged, is_third, duplicated, without_duplicates, with_told, is_same_told, without_pending}
use Rattle.subflow_tcp.specs.Dues.{owing_ack, owing_syn_ack, owing_first, owing_answer, only_reset}
use Rattle.subflow_tcp.specs.Segments.{Copy, occupied}
use Rattle.segment_wire.specs.Segment.{Segment}
use Rattle.subflow_tcp.specs.Spelling.{reset_answer}
use Rattle.subflow_tcp.specs.Spelling as read
use Rattle.subflow_tcp.specs.Judging.{meaning_of}
use Rattle.subflow_tcp.specs.State.{EndState, has_records, is_fin_passed}
use Rattle.subflow_tcp.specs.Sizes.{flight_told}

-- ---- what is dropped
-- an acceptable segment ends the row of expiries
abbrev pub after_hearing : EndState → EndState
after_hearing s = record s { timing = heard s.timing }

-- an acknowledgement is owed, at a half-open end the SYN/ACK
abbrev pub after_answering : EndState → EndState
after_answering s = record s { due = owing_answer (is_half_open s.state) s.due }

-- the SYN/ACK is owed
abbrev pub after_repeated_syn : EndState → EndState
after_repeated_syn s = record s { due = owing_syn_ack s.due }

-- ---- death
-- nothing is sent, kept or awaited any more, but a reset where the end is to send one
abbrev pub after_death : Bool → EndState → EndState
after_death reset s = record s {
  state = Dead;
  send = after_acknowledge s.send.nxt s.send;
  recv = after_forget_from s.recv.edge s.recv;
  timing = stopped s.timing;
  congestion = without_pending s.congestion;
  due = only_reset reset;
}

-- ---- the payload
-- a payload is kept where it is wanted, as long as the peer's FIN isn't passed
abbrev pub is_kept : Bool → EndState → Bool
is_kept keep s = keep && not (is_fin_passed s)

-- the payload at this position, where it is kept
abbrev pub after_keeping : Bool → ℕ → List ℕ → EndState → EndState
after_keeping keep pos payload s = record s { recv = (if is_kept keep s then after_accept pos payload s.recv else s.recv) }

-- how many octets are kept that were not kept before
abbrev pub kept_new : Bool → ℕ → List ℕ → EndState → ℕ
kept_new keep pos payload s = if is_kept keep s then new_octets (acceptance_of pos payload s.recv) else 0

-- ---- a payload that is held until it is kept
-- the payload at this position is held
abbrev pub after_holding : ℕ → List ℕ → EndState → EndState
after_holding pos payload s = record s { recv = after_hold pos payload s.recv }

-- behind the peer's FIN nothing is kept
abbrev pub after_keeping_held : EndState → EndState
after_keeping_held s = record s { recv = (if is_fin_passed s then without_held s.recv else after_keep_held s.recv) }

-- nothing is held any more
abbrev pub after_dropping_held : EndState → EndState
after_dropping_held s = record s { recv = without_held s.recv }

-- what the layer above tells of a segment whose payload isn't kept at once
abbrev pub unkept : Option ℕ → Hint
unkept data_ack = record { data_ack = data_ack; keep = false }

-- ---- the FIN behind it
-- the position of the first FIN that was heard
abbrev pub first_fin : Option ℕ → Bool → ℕ → Option ℕ
first_fin None fin pos = if fin then Some pos else None
first_fin (Some p) fin pos = Some p

-- the payload's first octet stands at this position
abbrev pub after_payload : ℕ → Hint → Copy → EndState → EndState
after_payload pos hint c s = record (after_keeping hint.keep pos c.payload s) { fin_at = first_fin s.fin_at c.fin (pos + length c.payload) }

-- ---- the acknowledgement
-- the FIN is acknowledged where it was pushed and nothing is left
abbrev pub is_fin_acked : SendState → Bool
is_fin_acked v = v.finished && v.una == v.nxt

-- something new was acknowledged: a sample, the congestion window, and the state where the FIN is acknowledged
abbrev pub after_new_ack : ℕ → Option ℕ → ℕ → EndState → EndState
after_new_ack octets since now s = record s {
  timing = measured since now s.timing;
  congestion = acknowledged octets (rtt_told (measured since now s.timing)) s.congestion;
  state = (if is_fin_acked s.send then after_fin_acked s.state else s.state);
}

-- only an acknowledgement of something new changes the end
abbrev pub after_ack_kind : AckKind → Option ℕ → ℕ → EndState → EndState
after_ack_kind (New octets) since now s = after_new_ack octets since now s
after_ack_kind Duplicate since now s = s
after_ack_kind Old since now s = s
after_ack_kind Future since now s = s

-- the position is acknowledged at the tick `now`
abbrev pub after_acknowledgement : ℕ → ℕ → EndState → EndState
after_acknowledgement pos now s =
    after_ack_kind (ack_kind pos s.send) (sample_of pos s.send) now (record s { send = after_acknowledge pos s.send })

-- ---- duplicates
abbrev pub is_empty : List ℕ → Bool
is_empty [] = true
is_empty (octet ∷ octets) = false

-- the copy acknowledges SND.UNA again
abbrev pub is_ack_again : AckKind → Bool
is_ack_again Duplicate = true
is_ack_again (New octets) = false
is_ack_again Old = false
is_ack_again Future = false

-- A duplicate acknowledges SND.UNA while something isn't acknowledged, without payload and FIN, and tells the same as the
-- segment before it (RFC 5681, section 2).
abbrev pub is_duplicate : AckKind → Told → Copy → EndState → Bool
is_duplicate kind told c s =
    is_ack_again kind && (is_empty c.payload && (not c.fin && (has_records s && is_same_told s.congestion.told told)))

-- the third in a row sends the first record again
abbrev pub after_duplicate : EndState → EndState
after_duplicate s = record s {
  congestion = duplicated (flight_told s.send) s.congestion;
  due = (if is_third s.congestion then owing_first s.due else s.due);
}

-- a segment that is no duplicate ends the row
abbrev pub after_interruption : EndState → EndState
after_interruption s = record s { congestion = without_duplicates s.congestion }

-- a duplicate counts in the row, and any other segment ends it
abbrev pub after_row : AckKind → Told → Copy → EndState → EndState
after_row kind told c s = if is_duplicate kind told c s then after_duplicate s else after_interruption s

-- what a segment told is kept for the comparison with the next one
abbrev pub after_telling : Told → EndState → EndState
after_telling told s = record s { congestion = with_told told s.congestion }

-- a segment tells its Data ACK and its window
abbrev pub told_by : Hint → Copy → Told
told_by hint c = record { place = hint.data_ack; window = c.window }

-- a SYN tells its window alone
abbrev pub told_by_syn : Copy → Told
told_by_syn c = record { place = None; window = c.window }

-- ---- what is taken
-- what occupies a position is acknowledged
abbrev pub after_occupying : Copy → EndState → EndState
after_occupying c s = record s { due = (if nat_lt 0 (occupied c) then owing_ack s.due else s.due) }

-- the end's handshake is done
abbrev pub after_established : EndState → EndState
after_established s = record s { state = after_handshake s.state }

-- the acknowledgement of a segment that is taken, and what it tells besides
abbrev pub after_heard_ack : ℕ → Hint → ℕ → Copy → EndState → EndState
after_heard_ack pos hint now c s =
    after_telling (told_by hint c) (after_row (ack_kind pos s.send) (told_by hint c) c (after_acknowledgement pos now s))

-- the payload and the handshake, the acknowledgement, and then what is owed
abbrev pub after_taken : ℕ → ℕ → Hint → ℕ → Copy → EndState → EndState
after_taken pos acknowledged hint now c s =
    after_occupying c (after_heard_ack acknowledged hint now c (after_established (after_hearing (after_payload pos hint c s))))

-- the SYN of a peer that opens
abbrev pub after_syn : Hint → Copy → EndState → EndState
after_syn hint c s = after_telling (told_by_syn c) (record (after_payload 1 hint c s) { state = SynReceived })

-- the SYN/ACK: both SYNs are acknowledged
abbrev pub after_syn_ack : ℕ → Hint → ℕ → Copy → EndState → EndState
after_syn_ack acknowledged hint now c s =
    after_occupying c (after_telling (told_by_syn c) (after_acknowledgement acknowledged now (record (after_hearing (after_payload 1 hint c s)) { state = Established })))

-- ---- all
-- the end after a segment of this meaning
abbrev pub after_arrival : Meaning → Hint → ℕ → Copy → EndState → EndState
after_arrival means.Ignored hint now c s = s
after_arrival means.Unwanted hint now c s = s
after_arrival means.Opens hint now c s = after_syn hint c s
after_arrival (means.Accepts acknowledged) hint now c s = after_syn_ack acknowledged hint now c s
after_arrival means.RepeatedSyn hint now c s = after_repeated_syn s
after_arrival means.Outside hint now c s = after_answering s
after_arrival means.Kills hint now c s = after_death false s
after_arrival means.Challenged hint now c s = after_answering (after_hearing s)
after_arrival means.Unacknowledging hint now c s = after_hearing s
after_arrival means.Ahead hint now c s = after_answering (after_hearing s)
after_arrival (means.Taken pos acknowledged) hint now c s = after_taken pos acknowledged hint now c s

-- the payload of a segment that means this is kept where it is taken; behind a SYN it begins at position 1
abbrev pub after_keeping_for : Meaning → Bool → List ℕ → EndState → EndState
after_keeping_for means.Opens keep payload s = after_keeping keep 1 payload s
after_keeping_for (means.Accepts acknowledged) keep payload s = after_keeping keep 1 payload s
after_keeping_for (means.Taken pos acknowledged) keep payload s = after_keeping keep pos payload s
after_keeping_for _ keep payload s = s

-- how many octets of it are kept that were not kept before
abbrev pub kept_for : Meaning → Bool → List ℕ → EndState → ℕ
kept_for means.Opens keep payload s = kept_new keep 1 payload s
kept_for (means.Accepts acknowledged) keep payload s = kept_new keep 1 payload s
kept_for (means.Taken pos acknowledged) keep payload s = kept_new keep pos payload s
kept_for _ keep payload s = 0

-- what is answered
abbrev pub arrival_of : Meaning → Hint → Copy → EndState → Arrival
arrival_of means.Ignored hint c s = Dropped
arrival_of means.Unwanted hint c s = Dropped
arrival_of means.Opens hint c s = Opened
arrival_of (means.Accepts acknowledged) hint c s = Opened
arrival_of means.RepeatedSyn hint c s = AckNow
arrival_of means.Outside hint c s = AckNow
arrival_of means.Kills hint c s = Killed
arrival_of means.Challenged hint c s = Challenge
arrival_of means.Unacknowledging hint c s = Dropped
arrival_of means.Ahead hint c s = AckNow
arrival_of (means.Taken pos acknowledged) hint c s =
    if is_half_open s.state then Opened else Took (ack_kind acknowledged s.send) (kept_new hint.keep pos c.payload s) c.fin

-- a number of octets are new, where the copy was taken
abbrev pub with_new : ℕ → Arrival → Arrival
with_new new (Took ack before fin) = Took ack new fin
with_new new arrival = arrival

-- ---- what the octets add
-- a SYN that is taken tells the peer's initial number, and a dead end answers by a reset
abbrev pub after_octets : Meaning → Head → ℕ → EndState → EndState
after_octets means.Opens head occupied s = record s { numbers = record s.numbers { peer = Some head.seq } }
after_octets (means.Accepts acknowledged) head occupied s = record s { numbers = record s.numbers { peer = Some head.seq } }
after_octets means.Unwanted head occupied s = record s { due = record s.due { answer = Some (reset_answer s.numbers head occupied) } }
after_octets _ head occupied s = s

-- the segment by positions, as the end reads it
abbrev pub copy_in : Segment → EndState → Copy
copy_in segment s = read.heard s.numbers s.recv.edge s.send.una segment

-- the end after a segment, by positions and then by its numbers
abbrev pub after_segment : Hint → ℕ → Segment → EndState → EndState
after_segment hint now segment s =
    let c = copy_in segment s in
    after_octets (meaning_of c s) segment.head (occupied c) (after_arrival (meaning_of c s) hint now c s)

-- what is answered to it
abbrev pub arrival_in : Hint → Segment → EndState → Arrival
arrival_in hint segment s = let c = copy_in segment s in arrival_of (meaning_of c s) hint c s
