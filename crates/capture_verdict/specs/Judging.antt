-- What a capture shows: its packets judged one after the other.
use Rattle.std.specs.Prelude.{ℕ, ◌+◌, Bool, Option, Some, None, List, [], ◌∷◌, Result, Ok}
use Rattle.sides.specs.declared.side.Side.{Side}
use Rattle.capture_reader.specs.Captured.{Captured}
use Rattle.capture_reader.specs.Captures.{capture_meaning}
use Rattle.capture_reader.specs.Seen.{Seen, segment_in_packet}
use Rattle.capture_reader.specs.Steps.{◌>>=◌}
use Rattle.rule_book.specs.Judged.{judged, nothing_judged}
use Rattle.rule_book.specs.State.{JudgedValue}

-- a packet that carries no segment changes nothing
abbrev pub judged_if_seen : Option Side → Bool → JudgedValue → ℕ → Option Seen → JudgedValue
judged_if_seen at check_sums state packet None = state
judged_if_seen at check_sums state packet (Some seen) = judged at check_sums state packet seen

-- packets count from this number on
abbrev pub judged_packets : Option Side → Bool → JudgedValue → ℕ → List Captured → JudgedValue
judged_packets at check_sums state number [] = state
judged_packets at check_sums state number (packet ∷ packets) =
    judged_packets at check_sums (judged_if_seen at check_sums state number (segment_in_packet packet)) (number + 1) packets

-- all that octets show as a capture, or the octet where the record or block begins that has no form
abbrev pub judged_capture : Option Side → Bool → List ℕ → Result JudgedValue ℕ
judged_capture at check_sums octets = capture_meaning octets >>= λ packets. Ok (judged_packets at check_sums nothing_judged 1 packets)
