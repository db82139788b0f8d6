-- What octets mean, by eight rules, of which the first that applies decides (RFC 8684, section 3).
use Rattle.std.specs.Prelude.{◌≡◌, ℕ, ◌+◌, ◌/◌, bit_and, ◌≤◌, Bool, true, false, not, ◌&&◌, ◌||◌, ◌==◌, nat_lt, nat_le, if◌then◌else◌, List, [], ◌∷◌, length}
use Rattle.octet_text.specs.Octets.{octet, is_set}
use Rattle.mptcp_options.specs.Octets.{is_among}
use Rattle.mptcp_options.specs.Value.{OptionValue, Capable, Join, Dss, AddAddr, RemoveAddr, Prio, Fail, FastClose, Reset, Meaning, Known, Unknown, Malformed}
use Rattle.mptcp_options.specs.Capable.{keys_at, reads_flag_a, reads_flag_c}
use Rattle.mptcp_options.specs.Join.{form_at}
use Rattle.mptcp_options.specs.Dss.{ack_at, mapping_at, fin_at, has_mapping, dss_lengths, dss_end}
use Rattle.mptcp_options.specs.Address.{is_echo, add_addr_lengths, address_at, port_at, hmac_at, ids_at}
use Rattle.mptcp_options.specs.Signals.{has_low_flag, number_at_4}

-- the upper half of the third octet
abbrev pub subtype : List ℕ → ℕ
subtype octets = octet octets 2 / 16

-- the lower half of the third octet of an MP_CAPABLE
abbrev pub version : List ℕ → ℕ
version octets = bit_and (octet octets 2) 0x0F

-- The table of lengths by subtype, in octets of the whole option:
--   0 MP_CAPABLE    4 no key, 12 the sender's, 20 both, 22 both with data, 24 the same with a checksum
--   1 MP_JOIN       12 SYN, 16 SYN/ACK, 24 third ACK
--   2 DSS           what its flags say, and where there is a mapping two more with a checksum
--   3 ADD_ADDR      IPv4 16, with a port 18; IPv6 28, with a port 30; an echo, without HMAC, 8 less
--   4 REMOVE_ADDR   3 and the ids, of which there is at least one
--   5 MP_PRIO 3, 6 MP_FAIL 12, 7 MP_FASTCLOSE 12, 8 MP_TCPRST 4
abbrev pub lengths : List ℕ → List ℕ
lengths octets =
    if subtype octets == 0 then 4 ∷ 12 ∷ 20 ∷ 22 ∷ 24 ∷ []
    else (if subtype octets == 1 then 12 ∷ 16 ∷ 24 ∷ []
    else (if subtype octets == 2 then dss_lengths (octet octets 3)
    else (if subtype octets == 3 then add_addr_lengths (is_echo octets)
    else (if subtype octets == 5 then 3 ∷ []
    else (if subtype octets == 6 then 12 ∷ []
    else (if subtype octets == 7 then 12 ∷ []
    else 4 ∷ []))))))

-- the length is one of the table's; rule 6 is that it isn't
unfoldable pub has_length_of_table : List ℕ → Bool
has_length_of_table octets =
    if subtype octets == 4 then nat_le 4 (length octets) else is_among (length octets) (lengths octets)

-- The value, field by field, of octets with a length of the table.
unfoldable pub value_at : List ℕ → OptionValue
value_at octets =
    if subtype octets == 0 then Capable (reads_flag_a octets) (reads_flag_c octets) (keys_at octets)
    else (if subtype octets == 1 then Join (form_at octets)
    else (if subtype octets == 2 then Dss (ack_at octets) (mapping_at octets) (fin_at octets)
    else (if subtype octets == 3
    then AddAddr (is_echo octets) (octet octets 3) (address_at octets) (port_at octets) (hmac_at octets)
    else (if subtype octets == 4 then RemoveAddr (ids_at octets)
    else (if subtype octets == 5 then Prio (has_low_flag octets)
    else (if subtype octets == 6 then Fail (number_at_4 octets)
    else (if subtype octets == 7 then FastClose (number_at_4 octets)
    else Reset (has_low_flag octets) (octet octets 3))))))))

-- ---- the rules

-- rule 1: the kind is not 30
unfoldable pub is_of_another_kind : List ℕ → Bool
is_of_another_kind [] = false
is_of_another_kind (kind ∷ rest) = not (kind == 0x1E)

-- rule 2: there are fewer than three octets, or the second is not their number
unfoldable pub is_misframed : List ℕ → Bool
is_misframed octets = nat_lt (length octets) 3 || not (octet octets 1 == length octets)

abbrev pub is_capable : List ℕ → Bool
is_capable octets = subtype octets == 0

-- rule 3: a subtype that there isn't, or an MP_CAPABLE of another version than 1
unfoldable pub is_foreign : List ℕ → Bool
is_foreign octets = nat_lt 8 (subtype octets) || (is_capable octets && not (version octets == 1))

-- rule 4: an MP_CAPABLE that ends before its flags
unfoldable pub has_no_flags : List ℕ → Bool
has_no_flags octets = is_capable octets && length octets == 3

-- rule 5: an MP_CAPABLE that offers no HMAC-SHA256 (flag H), or wants an extension that there isn't (flag B)
unfoldable pub is_unusable : List ℕ → Bool
is_unusable octets = is_capable octets && (not (is_set (octet octets 3) 0x01) || is_set (octet octets 3) 0x40)

-- a DSS with a mapping, or an MP_CAPABLE of more than 20 octets, which has data
abbrev pub carries_mapping_or_data : List ℕ → Bool
carries_mapping_or_data octets =
    if subtype octets == 2 then has_mapping (octet octets 3) else is_capable octets && nat_lt 20 (length octets)

-- a checksum of two octets ends it
abbrev pub ends_with_checksum : List ℕ → Bool
ends_with_checksum octets =
    if subtype octets == 2 then length octets == dss_end (octet octets 3) + 2 else length octets == 24

-- rule 7: a mapping or data stands without a checksum where checksums are used, or with one where they aren't
unfoldable pub differs_in_checksum : List ℕ → Bool → Bool
differs_in_checksum octets true = carries_mapping_or_data octets && not (ends_with_checksum octets)
differs_in_checksum octets false = carries_mapping_or_data octets && ends_with_checksum octets

-- what octets mean, where checksums are used or not
unfoldable pub option_meaning : List ℕ → Bool → Meaning
option_meaning octets checksum =
    if is_of_another_kind octets then Unknown
    else (if is_misframed octets then Malformed
    else (if is_foreign octets then Unknown
    else (if has_no_flags octets then Malformed
    else (if is_unusable octets then Unknown
    else (if not (has_length_of_table octets) then Malformed
    else (if differs_in_checksum octets checksum then Malformed
    else Known (value_at octets)))))))

-- octets that the first two rules pass: of kind 30, with their number in the second octet
pub record IsFramed (octets : List ℕ) : Type 0 where
  pub kind : octet octets 0 ≡ 0x1E
  pub counted : octet octets 1 ≡ length octets
  pub long : 3 ≤ length octets
