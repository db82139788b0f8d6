-- What a reader of the format finds at the start of octets, by where each field stands (the Internet draft
-- draft-ietf-opsawg-pcapng, sections 3 and 4).
use Rattle.std.specs.Prelude.{◌≡◌, ℕ, ◌+◌, ◌-◌, ◌*◌, ◌/◌, ◌%◌, List, [], ◌∷◌, drop, slice_range, All, ◌==◌, if◌then◌else◌, Option, Some, None}
use Rattle.std.specs.Int.{w16, w32, w64}
use Rattle.octet_text.specs.Octets.{number_at}
use Rattle.pcap_text.specs.declared.blocks.Direction.{Direction}
use Rattle.pcap_text.specs.declared.blocks.Direction.TheVariants.{Outbound, Inbound}
use Rattle.pcap_text.specs.Blocks.{Block, Section, Interface, Packet, CanRecord, capture_text}

-- the next multiple of four
abbrev pub up_to_four : ℕ → ℕ
up_to_four n = 4 * ((n + 3) / 4)

-- the value of the option at a place
abbrev pub option_at : List ℕ → ℕ → List ℕ
option_at octets place = slice_range octets (place + 4) (place + 4 + number_at w16 octets (place + 2))

-- the place behind the option at a place
abbrev pub behind_option : List ℕ → ℕ → ℕ
behind_option octets place = place + 4 + up_to_four (number_at w16 octets (place + 2))

-- the direction that flags tell: went out (2), else came in
abbrev pub direction_of : ℕ → Direction
direction_of flags = if flags % 4 == 2 then Outbound else Inbound

-- a packet: its octets from place 28 on, then two options
abbrev pub packet_in : List ℕ → Block
packet_in octets =
    let len = number_at w32 octets 20 in
    let comment = 28 + up_to_four len in
    let flags = number_at w32 octets (behind_option octets comment + 4) in
    Packet (record {
      interface = number_at w32 octets 8;
      millisecond = number_at w64 octets 12;
      direction = direction_of flags;
    }) (slice_range octets 28 (28 + len)) (option_at octets comment)

-- the block that octets begin with, by its type
abbrev pub first_block : List ℕ → Option Block
first_block octets =
    let kind = number_at w32 octets 0 in
    if kind == 0x0A0D0D0A then Some Section
    else (if kind == 1 then Some (Interface (option_at octets 16))
    else (if kind == 6 then Some (packet_in octets)
    else None))

-- how long the block is that octets begin with
abbrev pub first_len : List ℕ → ℕ
first_len octets = number_at w32 octets 4

-- Octets begin with a block: by its type and fields, and its length is told once more at its end.
pub record BeginsWith (octets : List ℕ) (block : Block) : Type 0 where
  pub first : first_block octets ≡ Some block
  pub again : number_at w32 octets (first_len octets - 4) ≡ first_len octets

-- octets are these blocks, one after the other, as a reader finds them
abbrev pub AreBlocks : List ℕ → List Block → Type 0
AreBlocks octets [] = octets ≡ []
AreBlocks octets (block ∷ blocks) = BeginsWith octets block × AreBlocks (drop (first_len octets) octets) blocks

-- What is written of blocks is read as these blocks.
abbrev pub CapturesAreReadAgain : Type 0
CapturesAreReadAgain = (blocks : List Block) → All CanRecord blocks → AreBlocks (capture_text blocks) blocks
