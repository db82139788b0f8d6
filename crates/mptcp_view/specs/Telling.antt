-- What the lines of a log tell of the segments that are sent.
use Rattle.std.specs.Prelude.{ℕ, suc, ◌+◌, ◌*◌, ◌-◌, Bool, false, ◌&&◌, if◌then◌else◌, Option, Some, None, List, [], ◌∷◌, ◌++◌, length, drop, slice_index, codes}
use Rattle.std.specs.Fmt.{decimal}
use Rattle.std.specs.List.{slice_get}
use Rattle.std.specs.Str.{bytes_eq}
use Rattle.octet_text.specs.Lines.{text_lines}
use Rattle.sides.specs.Side.{side_word}
use Rattle.segment_wire.specs.Reading.{header_len}
use Rattle.link_trace.specs.declared.sent.Sent.{Sent}
use Rattle.run_outside.specs.Parting.{parted_at}

-- what stands behind the first space
abbrev pub behind_word : List ℕ → List ℕ
behind_word text = (parted_at 32 text).1

-- behind its stamp and its actor
abbrev pub step_words : List ℕ → List ℕ
step_words line = behind_word (behind_word line)

abbrev pub first_word : List ℕ → List ℕ
first_word text = (parted_at 32 text).0

-- a line tells that its path hands a segment to the link
abbrev pub is_sent : List ℕ → Bool
is_sent line = bytes_eq (first_word (step_words line)) (codes "me") && bytes_eq (first_word (behind_word (step_words line))) (codes "sent")

-- the octets of its payload (RFC 9293, section 3.1)
abbrev pub payload_told : List ℕ → ℕ
payload_told octets = length octets - header_len octets

-- a segment's checksum field (RFC 9293, section 3.1)
abbrev pub checksum_told : List ℕ → ℕ
checksum_told octets = slice_index octets 16 * 256 + slice_index octets 17

-- the words of the step that hands a segment over: the side, the number in its direction, the octets of the payload, the checksum
abbrev pub sent_words : Sent → List ℕ
sent_words s =
    codes "me sent " ++ (side_word s.from ++ (codes " " ++ (decimal s.number ++ (codes " "
    ++ (decimal (payload_told s.octets) ++ (codes " " ++ decimal (checksum_told s.octets)))))))

-- the line tells this segment
abbrev pub tells : List ℕ → Option Sent → Bool
tells line None = false
tells line (Some s) = bytes_eq (step_words line) (sent_words s)

-- The number of the first of these lines, the first of which has this one, that tells a segment, but not the next one of a trace; or
-- that of the line behind them, where segments of the trace are left.
abbrev pub untold_on : ℕ → List (List ℕ) → List Sent → Option ℕ
untold_on number [] [] = None
untold_on number [] (s ∷ trace) = Some number
untold_on number (line ∷ lines) trace =
    if is_sent line then (if tells line (slice_get trace 0) then untold_on (suc number) lines (drop 1 trace) else Some number)
    else untold_on (suc number) lines trace

-- of a log, whose first line is line 1: none, where its lines tell just the segments of the trace, in their order
abbrev pub untold : List ℕ → List Sent → Option ℕ
untold log trace = untold_on 1 (text_lines log) trace
