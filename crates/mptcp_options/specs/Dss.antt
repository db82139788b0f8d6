-- DSS (RFC 8684, section 3.3): subtype 2, then the flags F 0x10, m 0x08, M 0x04, a 0x02 and A 0x01; with A the Data
-- ACK, of 8 octets with a, else 4; with M the mapping, whose data number has 8 octets with m, else 4.
use Rattle.std.specs.Prelude.{◌≡◌, ℕ, ◌+◌, ◌<◌, ◌^◌, Bool, true, false, ◌&&◌, ◌==◌, if◌then◌else◌, Option, Some, None, is_some, IfSome, IfNone, List, [], ◌∷◌, ◌++◌, length, bit_or}
use Rattle.std.specs.Int.{w16, w32, w64, to_be_bytes}
use Rattle.mptcp_options.specs.declared.dss.DataNumber.{DataNumber}
use Rattle.mptcp_options.specs.declared.dss.DataNumber.TheVariants.{Whole, Low}
use Rattle.mptcp_options.specs.declared.dss.DssMap.{DssMap}
use Rattle.octet_text.specs.Octets.{octet, number_at, is_set}
use Rattle.mptcp_options.specs.Octets.{flag_if, optional, IsBelow}

-- ---- as it is written

-- eight octets, or the low four
abbrev pub data_number_text : DataNumber → List ℕ
data_number_text (Whole n) = to_be_bytes w64 n
data_number_text (Low n) = to_be_bytes w32 n

-- the number has all its eight octets
abbrev pub is_whole : DataNumber → Bool
is_whole (Whole n) = true
is_whole (Low n) = false

-- the Data ACK, where there is one
abbrev pub ack_text : Option DataNumber → List ℕ
ack_text None = []
ack_text (Some ack) = data_number_text ack

-- flag A for a Data ACK, and a where it has eight octets
abbrev pub ack_flags : Option DataNumber → ℕ
ack_flags None = 0
ack_flags (Some ack) = bit_or (flag_if (is_whole ack) 0x02) 0x01

-- data number, relative number, length, and a checksum where there is one
abbrev pub mapping_text : Option DssMap → List ℕ
mapping_text None = []
mapping_text (Some m) =
    data_number_text m.number ++ to_be_bytes w32 m.relative ++ to_be_bytes w16 m.length ++ optional w16 m.checksum

-- flag M for a mapping, and m where its data number has eight octets
abbrev pub mapping_flags : Option DssMap → ℕ
mapping_flags None = 0
mapping_flags (Some m) = bit_or (flag_if (is_whole m.number) 0x08) 0x04

-- the octets after kind and length
abbrev pub dss_body : Option DataNumber → Option DssMap → Bool → List ℕ
dss_body ack mapping fin =
    0x20 ∷ bit_or (bit_or (flag_if fin 0x10) (mapping_flags mapping)) (ack_flags ack) ∷ ack_text ack ++ mapping_text mapping

-- ---- as it is read, where flags is the fourth octet

-- flag A
abbrev pub has_ack : ℕ → Bool
has_ack flags = is_set flags 0x01

-- flag M
abbrev pub has_mapping : ℕ → Bool
has_mapping flags = is_set flags 0x04

-- how many octets a data number has
abbrev pub data_number_length : Bool → ℕ
data_number_length whole = if whole then 8 else 4

-- the data number that begins at a place
abbrev pub data_number_at : Bool → List ℕ → ℕ → DataNumber
data_number_at whole octets place = if whole then Whole (number_at w64 octets place) else Low (number_at w32 octets place)

-- where the mapping begins, or the option ends without one
abbrev pub mapping_place : ℕ → ℕ
mapping_place flags = if has_ack flags then 4 + data_number_length (is_set flags 0x02) else 4

-- where the fields after the mapping's data number begin
abbrev pub relative_place : ℕ → ℕ
relative_place flags = mapping_place flags + data_number_length (is_set flags 0x08)

-- where the option ends, or a checksum begins
abbrev pub dss_end : ℕ → ℕ
dss_end flags = if has_mapping flags then relative_place flags + 6 else mapping_place flags

-- a checksum of two octets can follow a mapping alone
abbrev pub dss_lengths : ℕ → List ℕ
dss_lengths flags = if has_mapping flags then dss_end flags ∷ (dss_end flags + 2) ∷ [] else dss_end flags ∷ []

-- the one length that fits the flags and the use of checksums
abbrev pub dss_length : ℕ → Bool → ℕ
dss_length flags checksum = dss_end flags + (if has_mapping flags && checksum then 2 else 0)

-- the Data ACK begins at place 4
abbrev pub ack_at : List ℕ → Option DataNumber
ack_at octets =
    let flags = octet octets 3 in
    if has_ack flags then Some (data_number_at (is_set flags 0x02) octets 4) else None

-- the fields of the mapping; where the option doesn't end behind its length, two octets of checksum follow
abbrev pub mapping_at : List ℕ → Option DssMap
mapping_at octets =
    let flags = octet octets 3 in
    if has_mapping flags then Some (record {
      number = data_number_at (is_set flags 0x08) octets (mapping_place flags);
      relative = number_at w32 octets (relative_place flags);
      length = number_at w16 octets (relative_place flags + 4);
      checksum = if length octets == dss_end flags then None else Some (number_at w16 octets (dss_end flags));
    }) else None

-- flag F, which is read with a mapping alone
abbrev pub fin_at : List ℕ → Bool
fin_at octets = let flags = octet octets 3 in has_mapping flags && is_set flags 0x10

-- ---- which may be written

-- a checksum stands exactly where checksums are used, and flag F only with a mapping
abbrev pub DssHasForm : Bool → Option DssMap → Bool → Type 0
DssHasForm checksum mapping fin = IfSome mapping (λ m. is_some m.checksum ≡ checksum) × IfNone mapping (fin ≡ false)

-- a data number is below 2^64, or 2^32 where four octets tell it
abbrev pub DataNumberFits : DataNumber → Type 0
DataNumberFits (Whole n) = n < 2 ^ 64
DataNumberFits (Low n) = n < 2 ^ 32

-- each field of a mapping has the range of its type
abbrev pub MappingFits : DssMap → Type 0
MappingFits m = DataNumberFits m.number × (m.relative < 2 ^ 32) × (m.length < 2 ^ 16) × IsBelow (2 ^ 16) m.checksum

-- each field has the range of its type
abbrev pub DssFits : Option DataNumber → Option DssMap → Type 0
DssFits ack mapping = IfSome ack DataNumberFits × IfSome mapping MappingFits
