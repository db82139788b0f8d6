-- A capture of a trace: an interface for each path, a packet for each segment.
use Rattle.std.specs.Prelude.{ℕ, zero, suc, ◌+◌, min, if◌then◌else◌, List, [], ◌∷◌, ◌++◌, map, length, take, codes}
use Rattle.std.specs.Fmt.{decimal}
use Rattle.segment_wire.specs.Paths.{addresses_from}
use Rattle.sides.specs.declared.side.Side.{Side}
use Rattle.link_script.specs.Places.{same_side}
use Rattle.pcap_text.specs.declared.blocks.Direction.{Direction}
use Rattle.pcap_text.specs.declared.blocks.Direction.TheVariants.{Outbound, Inbound}
use Rattle.pcap_text.specs.Blocks.{Block, Section, Interface, Packet}
use Rattle.pcap_text.specs.Ipv4.{header_text}
use Rattle.link_trace.specs.declared.sent.Sent.{Sent}
use Rattle.link_trace.specs.Fates.{fate_words}

-- as this side sees it
abbrev pub direction_at : Side → Side → Direction
direction_at side from = if same_side from side then Outbound else Inbound

-- a segment has at most 65,515 octets
abbrev pub segment_len : Sent → ℕ
segment_len s = min (length s.octets) 65515

-- the segment behind an IPv4 header between the addresses of its path (RFC 791, section 3.1)
abbrev pub ipv4_packet : Sent → List ℕ
ipv4_packet s =
    let addresses = addresses_from s.path s.from in
    header_text addresses.source addresses.destination (segment_len s) ++ take (segment_len s) s.octets

-- on the interface of its path at its tick, a millisecond, as this side sees it, with a comment of what becomes of it
abbrev pub packet_of : Side → Sent → Block
packet_of side s =
    Packet (record { interface = s.path; millisecond = s.tick; direction = direction_at side s.from }) (ipv4_packet s) (fate_words s.fate)

-- the interfaces of so many paths, the first one of this number
abbrev pub interfaces : ℕ → ℕ → List Block
interfaces zero path = []
interfaces (suc more) path = Interface (codes "path " ++ decimal path) ∷ interfaces more (path + 1)

-- a section with so many interfaces, and then the packets in order
abbrev pub blocks_of : Side → ℕ → List Sent → List Block
blocks_of side paths trace = Section ∷ (interfaces paths 0 ++ map (packet_of side) trace)
