-- MP_CAPABLE (RFC 8684, section 3.1): subtype 0 and version 1, then the flags A 0x80, B 0x40, C 0x20 and H 0x01,
-- then keys, and with data their length and checksum.
use Rattle.std.specs.Prelude.{◌≡◌, ℕ, ◌<◌, ◌^◌, Bool, ◌==◌, if◌then◌else◌, Option, Some, None, is_some, List, [], ◌∷◌, ◌++◌, length, bit_or}
use Rattle.std.specs.Int.{w16, w64, to_be_bytes}
use Rattle.mptcp_options.specs.declared.capable.CapableKeys.{CapableKeys}
use Rattle.mptcp_options.specs.declared.capable.CapableKeys.TheVariants.{NoKey, Sender, Both, WithData}
use Rattle.octet_text.specs.Octets.{octet, number_at, is_set}
use Rattle.mptcp_options.specs.Octets.{flag_if, is_among, optional, IsBelow}

-- ---- as it is written

-- the fields behind the flags, in network order: 8 octets for each key, 2 for the data's length and 2 for its checksum
abbrev pub keys_text : CapableKeys → List ℕ
keys_text NoKey = []
keys_text (Sender sender) = to_be_bytes w64 sender
keys_text (Both sender receiver) = to_be_bytes w64 sender ++ to_be_bytes w64 receiver
keys_text (WithData sender receiver data_length checksum) =
    to_be_bytes w64 sender ++ to_be_bytes w64 receiver ++ to_be_bytes w16 data_length ++ optional w16 checksum

-- the octets after kind and length; B is 0 and H is 1
abbrev pub capable_body : Bool → Bool → CapableKeys → List ℕ
capable_body flag_a flag_c keys = 0x01 ∷ bit_or (bit_or (flag_if flag_a 0x80) (flag_if flag_c 0x20)) 0x01 ∷ keys_text keys

-- ---- as it is read

-- the length tells the form
abbrev pub keys_at : List ℕ → CapableKeys
keys_at octets =
    if length octets == 4 then NoKey
    else (if length octets == 12 then Sender (number_at w64 octets 4)
    else (if length octets == 20 then Both (number_at w64 octets 4) (number_at w64 octets 12)
    else WithData (number_at w64 octets 4) (number_at w64 octets 12) (number_at w16 octets 20)
    (if length octets == 24 then Some (number_at w16 octets 22) else None)))

-- the keys, if there are so many octets: with data, two more where checksums are used
abbrev pub keys_if_long : List ℕ → Bool → Option CapableKeys
keys_if_long octets checksum =
    if is_among (length octets) (4 ∷ 12 ∷ 20 ∷ (if checksum then 24 else 22) ∷ []) then Some (keys_at octets) else None

-- flag A, by which checksums are required
abbrev pub reads_flag_a : List ℕ → Bool
reads_flag_a octets = is_set (octet octets 3) 0x80

-- flag C, by which no more subflows are taken at the sender's address and port
abbrev pub reads_flag_c : List ℕ → Bool
reads_flag_c octets = is_set (octet octets 3) 0x20

-- ---- which may be written

-- a checksum stands exactly where checksums are used
abbrev pub KeysHaveForm : Bool → CapableKeys → Type 0
KeysHaveForm checksum (WithData sender receiver data_length sum) = is_some sum ≡ checksum
KeysHaveForm checksum _ = Unit {0}

-- each field has the range of its type
abbrev pub KeysFit : CapableKeys → Type 0
KeysFit NoKey = Unit {0}
KeysFit (Sender sender) = sender < 2 ^ 64
KeysFit (Both sender receiver) = (sender < 2 ^ 64) × (receiver < 2 ^ 64)
KeysFit (WithData sender receiver data_length sum) =
    (sender < 2 ^ 64) × (receiver < 2 ^ 64) × (data_length < 2 ^ 16) × IsBelow (2 ^ 16) sum
