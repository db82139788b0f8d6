-- A capture in the pcapng format, block by block, each number with its highest octet first (the Internet draft
-- draft-ietf-opsawg-pcapng, sections 3 and 4).
use Rattle.std.specs.Prelude.{ℕ, ◌+◌, ◌-◌, ◌*◌, ◌/◌, ◌%◌, ◌^◌, ◌<◌, List, [], ◌∷◌, ◌++◌, length, replicate}
use Rattle.std.specs.Int.{w16, w32, w64, to_be_bytes}
use Rattle.pcap_text.specs.declared.blocks.Direction.{Direction}
use Rattle.pcap_text.specs.declared.blocks.Direction.TheVariants.{Outbound, Inbound}
use Rattle.pcap_text.specs.declared.blocks.Seen.{Seen}

pub data Block : Type 0 where
  -- the start of a capture
  Section : Block
  -- where packets are seen: its name
  Interface : List ℕ → Block
  -- a packet: where and when it was seen, its octets, a comment
  Packet : Seen → List ℕ → List ℕ → Block

-- how many zeros bring so many octets to a multiple of four
abbrev pub padding : ℕ → ℕ
padding len = (4 - len % 4) % 4

-- the octets, and zeros up to a multiple of four
abbrev pub padded : List ℕ → List ℕ
padded octets = octets ++ replicate (padding (length octets)) 0

-- an option: its code, how many octets its value has, the value (section 3.5)
abbrev pub option_text : ℕ → List ℕ → List ℕ
option_text code value = to_be_bytes w16 code ++ (to_be_bytes w16 (length value) ++ padded value)

-- the option that ends a list of options
abbrev pub end_of_options : List ℕ
end_of_options = 0 ∷ 0 ∷ 0 ∷ 0 ∷ []

-- a block of this type: how long it is in all stands before and behind what is in it (section 3.1)
abbrev pub block_with : ℕ → List ℕ → List ℕ
block_with kind body =
    to_be_bytes w32 kind ++ (to_be_bytes w32 (length body + 12) ++ (body ++ to_be_bytes w32 (length body + 12)))

-- the flags of a packet: whether it came in (1) or went out (2) (section 4.3.1)
abbrev pub flags_of : Direction → ℕ
flags_of Inbound = 1
flags_of Outbound = 2

-- Section header (section 4.1): the magic number that tells the order of octets, version 1.0, no length told.
abbrev pub section_body : List ℕ
section_body = to_be_bytes w32 0x1A2B3C4D ++ (to_be_bytes w16 1 ++ (to_be_bytes w16 0 ++ to_be_bytes w64 0xFFFFFFFFFFFFFFFF))

-- Interface description (section 4.2): raw IPv4 (link type 228), packets of any length; its name (option 2); times
-- count thousandths of a second (option 9, ten to the minus 3).
abbrev pub interface_body : List ℕ → List ℕ
interface_body name =
    to_be_bytes w16 228 ++ (to_be_bytes w16 0 ++ (to_be_bytes w32 0
    ++ (option_text 2 name ++ (option_text 9 (3 ∷ []) ++ end_of_options))))

-- Enhanced packet (section 4.3): the interface, the time, its high half first, the length as captured and as it was; the
-- packet; a comment (option 1) and the flags (option 2).
abbrev pub packet_body : Seen → List ℕ → List ℕ → List ℕ
packet_body seen octets comment =
    to_be_bytes w32 seen.interface
    ++ (to_be_bytes w64 seen.millisecond
    ++ (to_be_bytes w32 (length octets) ++ (to_be_bytes w32 (length octets)
    ++ (padded octets
    ++ (option_text 1 comment ++ (option_text 2 (to_be_bytes w32 (flags_of seen.direction)) ++ end_of_options))))))

-- the octets of a block
abbrev pub block_text : Block → List ℕ
block_text Section = block_with 0x0A0D0D0A section_body
block_text (Interface name) = block_with 1 (interface_body name)
block_text (Packet seen octets comment) = block_with 6 (packet_body seen octets comment)

-- the octets of a capture: its blocks one after the other
abbrev pub capture_text : List Block → List ℕ
capture_text [] = []
capture_text (block ∷ blocks) = block_text block ++ capture_text blocks

-- what fits the fields: a name or a comment below 2^16 octets, a packet below 2^31
abbrev pub CanRecord : Block → Type 0
CanRecord Section = Unit {0}
CanRecord (Interface name) = length name < 2 ^ 16
CanRecord (Packet seen octets comment) =
    (seen.interface < 2 ^ 32) × (seen.millisecond < 2 ^ 64) × (length octets < 2 ^ 31) × (length comment < 2 ^ 16)
