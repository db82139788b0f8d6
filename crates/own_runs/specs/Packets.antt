-- The packets of a capture of ours, as a reader of any capture holds them.
use Rattle.std.specs.Prelude.{ℕ, ◌≡◌, ◌+◌, ◌<◌, true, List, [], ◌∷◌, All, Ok}
use Rattle.pcap_text.specs.Blocks.{Block, Section, Interface, Packet, CanRecord, capture_text}
use Rattle.capture_reader.specs.Captured.{Captured}
use Rattle.capture_reader.specs.Captures.{capture_meaning}

-- a raw IPv4 packet (link type 228) with all its octets
abbrev pub raw_packet : List ℕ → Captured
raw_packet octets = record { link = 228; octets = octets; whole = true }

-- the packets of blocks, in order
abbrev pub packets_of : List Block → List Captured
packets_of [] = []
packets_of (Section ∷ blocks) = packets_of blocks
packets_of (Interface name ∷ blocks) = packets_of blocks
packets_of (Packet seen octets comment ∷ blocks) = raw_packet octets ∷ packets_of blocks

-- Each packet is of an interface that was named before it in its section, where so many were named before these blocks.
abbrev pub HaveInterfaces : ℕ → List Block → Type 0
HaveInterfaces named [] = Unit {0}
HaveInterfaces named (Section ∷ blocks) = HaveInterfaces 0 blocks
HaveInterfaces named (Interface name ∷ blocks) = HaveInterfaces (named + 1) blocks
HaveInterfaces named (Packet seen octets comment ∷ blocks) = (seen.interface < named) × HaveInterfaces named blocks

-- What is written of a section and these blocks is read as their packets.
abbrev pub CapturesAreTheirPackets : Type 0
CapturesAreTheirPackets = (blocks : List Block) → All CanRecord blocks → HaveInterfaces 0 blocks
    → capture_meaning (capture_text (Section ∷ blocks)) ≡ Ok (packets_of blocks)
