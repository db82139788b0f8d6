-- What holds of the text and the meaning of segments, for all addresses, segments and octets.
use Rattle.std.specs.Prelude.{◌≡◌, ℕ, ◌*◌, ◌/◌, ◌%◌, List, length, slice_index, slice_set, bit_and, Ok}
use Rattle.ones_sum.specs.Words.{AreOctets}
use Rattle.segment_wire.specs.declared.head.Addresses.{Addresses}
use Rattle.segment_wire.specs.Checksum.{checksum_of}
use Rattle.segment_wire.specs.Segment.{Segment, CanWrite, segment_text}
use Rattle.segment_wire.specs.Reading.{segment_meaning}

-- IPv4 addresses have four octets
pub record AreAddresses (addresses : Addresses) : Type 0 where
  pub source : length addresses.source ≡ 4
  pub destination : length addresses.destination ≡ 4

-- what is written is read again
abbrev pub IsReadAgain : Type 0
IsReadAgain = (addresses : Addresses) (segment : Segment) → AreAddresses addresses → CanWrite segment
    → segment_meaning addresses (segment_text addresses segment) ≡ Ok segment

-- two segments that can be written have one text only where they are one segment
abbrev pub DiffersInOctets : Type 0
DiffersInOctets = (addresses : Addresses) (s t : Segment) → AreAddresses addresses → CanWrite s → CanWrite t
    → segment_text addresses s ≡ segment_text addresses t → s ≡ t

-- the octets with the ignored bits 0: the reserved bits, CWR, ECE, URG, PSH and the urgent pointer
abbrev pub without_ignored : List ℕ → List ℕ
without_ignored octets =
    let offset = slice_set octets 12 (16 * (slice_index octets 12 / 16)) in
    let control = slice_set offset 13 (bit_and (slice_index octets 13) 0x17) in
    slice_set (slice_set control 18 0) 19 0

-- the octets with this checksum
abbrev pub with_checksum : ℕ → List ℕ → List ℕ
with_checksum checksum octets = slice_set (slice_set octets 16 (checksum / 256 % 256)) 17 (checksum % 256)

-- the octets with the checksum made anew
abbrev pub summed_anew : Addresses → List ℕ → List ℕ
summed_anew addresses octets = with_checksum (checksum_of addresses (with_checksum 0 octets)) octets

-- what is read can be written, and gives the octets that were read but for the ignored bits and the checksum
abbrev pub IsWrittenAgain : Type 0
IsWrittenAgain = (addresses : Addresses) (octets : List ℕ) (segment : Segment) → AreOctets octets → segment_meaning addresses octets ≡ Ok segment
    → CanWrite segment × (segment_text addresses segment ≡ summed_anew addresses (without_ignored octets))
