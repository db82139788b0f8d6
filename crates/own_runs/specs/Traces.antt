-- The segments of a trace in the capture that is written of it.
use Rattle.std.specs.Prelude.{◌≡◌, ℕ, ◌^◌, ◌<◌, ◌≤◌, List, map, length, All, Some, Ok}
use Rattle.sides.specs.declared.side.Side.{Side}
use Rattle.segment_wire.specs.Paths.{addresses_from}
use Rattle.segment_wire.specs.Reading.{segment_meaning}
use Rattle.segment_wire.specs.Segment.{Segment}
use Rattle.link_trace.specs.declared.sent.Sent.{Sent}
use Rattle.link_trace.specs.Captures.{blocks_of}
use Rattle.link_trace.specs.Fates.{fate_words}
use Rattle.pcap_text.specs.Blocks.{capture_text}
use Rattle.capture_reader.specs.Captured.{Captured}
use Rattle.capture_reader.specs.Captures.{capture_meaning}
use Rattle.capture_reader.specs.Seen.{segment_in_packet}
use Rattle.own_runs.specs.Packets.{raw_packet}
use Rattle.own_runs.specs.Segments.{packet_text, seen_between}

-- A segment fits a capture: its tick has 64 bits, its fate in words less than 2^16 octets, and with an IPv4 header it fits 65,535 octets
-- (RFC 791, section 3.1).
pub record FitsCapture (s : Sent) : Type 0 where
  pub tick : s.tick < 2 ^ 64
  pub comment : length (fate_words s.fate) < 2 ^ 16
  pub octets : length s.octets ≤ 65515

-- its octets between the addresses of its path
abbrev pub packet_for : Sent → Captured
packet_for s = raw_packet (packet_text (addresses_from s.path s.from) s.octets)

-- What is written of a trace on so many paths is read as its packets, in order.
abbrev pub TracesAreTheirPackets : Type 0
TracesAreTheirPackets = (side : Side) (paths : ℕ) (trace : List Sent) → paths ≤ 2 ^ 32 → All (λ s. s.path < paths) trace → All FitsCapture trace
    → capture_meaning (capture_text (blocks_of side paths trace)) ≡ Ok (map packet_for trace)

-- In each packet its segment is found as its receiver reads it.
abbrev pub TracesAreTheirSegments : Type 0
TracesAreTheirSegments = (s : Sent) (segment : Segment) → length s.octets ≤ 65515 → segment_meaning (addresses_from s.path s.from) s.octets ≡ Ok segment
    → segment_in_packet (packet_for s) ≡ Some (seen_between (addresses_from s.path s.from) segment)
