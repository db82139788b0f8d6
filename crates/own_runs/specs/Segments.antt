-- The segment in a packet of ours.
use Rattle.std.specs.Prelude.{ℕ, ◌≡◌, ◌+◌, ◌≤◌, true, false, Some, List, ◌++◌, length, Ok}
use Rattle.key_material.specs.declared.address.Address.TheVariants.{V4}
use Rattle.segment_wire.specs.declared.head.Addresses.{Addresses}
use Rattle.segment_wire.specs.Laws.{AreAddresses}
use Rattle.segment_wire.specs.Reading.{segment_meaning}
use Rattle.segment_wire.specs.Segment.{Segment, CanWrite, segment_text}
use Rattle.pcap_text.specs.Ipv4.{header_text}
use Rattle.capture_reader.specs.Seen.{Seen, segment_in_packet}
use Rattle.own_runs.specs.Packets.{raw_packet}

-- these octets behind an IPv4 header between these addresses (RFC 791, section 3.1)
abbrev pub packet_text : Addresses → List ℕ → List ℕ
packet_text addresses octets = header_text addresses.source addresses.destination (length octets) ++ octets

-- a whole segment with a right checksum, as a reader of captures sees it
abbrev pub seen_between : Addresses → Segment → Seen
seen_between addresses segment = record {
  source = record { address = V4 addresses.source; port = segment.head.source_port };
  destination = record { address = V4 addresses.destination; port = segment.head.destination_port };
  segment = segment;
  payload_len = length segment.payload;
  is_cut = false;
  has_good_sum = true;
}

-- What the receiver of octets reads as a segment is found in the packet that carries them. With the header they fit the 65,535 octets
-- of a packet.
abbrev pub SegmentsAreFound : Type 0
SegmentsAreFound = (addresses : Addresses) (octets : List ℕ) (segment : Segment) → AreAddresses addresses → length octets ≤ 65515
    → segment_meaning addresses octets ≡ Ok segment
    → segment_in_packet (raw_packet (packet_text addresses octets)) ≡ Some (seen_between addresses segment)

-- What is written of a segment is found in the packet that carries it.
abbrev pub WrittenSegmentsAreFound : Type 0
WrittenSegmentsAreFound = (addresses : Addresses) (segment : Segment) → AreAddresses addresses → CanWrite segment
    → length segment.options + length segment.payload ≤ 65495
    → segment_in_packet (raw_packet (packet_text addresses (segment_text addresses segment))) ≡ Some (seen_between addresses segment)
