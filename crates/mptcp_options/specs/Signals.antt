-- The options of one form: MP_PRIO (RFC 8684, section 3.3.8), MP_FAIL (3.7), MP_FASTCLOSE (3.5) and MP_TCPRST (3.6).
use Rattle.std.specs.Prelude.{ℕ, Bool, List, [], ◌∷◌, bit_or}
use Rattle.std.specs.Int.{w64, to_be_bytes}
use Rattle.octet_text.specs.Octets.{octet, number_at, is_set}
use Rattle.mptcp_options.specs.Octets.{flag_if}

-- ---- as they are written: the octets after kind and length

-- subtype 5, with flag B 0x01 in its octet
abbrev pub prio_body : Bool → List ℕ
prio_body backup = bit_or 0x50 (flag_if backup 0x01) ∷ []

-- subtype 6
abbrev pub fail_body : ℕ → List ℕ
fail_body number = 0x60 ∷ 0 ∷ to_be_bytes w64 number

-- subtype 7
abbrev pub fast_close_body : ℕ → List ℕ
fast_close_body key = 0x70 ∷ 0 ∷ to_be_bytes w64 key

-- subtype 8, with flag T 0x01 in its octet
abbrev pub reset_body : Bool → ℕ → List ℕ
reset_body transient reason = bit_or 0x80 (flag_if transient 0x01) ∷ reason ∷ []

-- ---- as they are read

-- the flag in the subtype's octet: B of MP_PRIO, T of MP_TCPRST
abbrev pub has_low_flag : List ℕ → Bool
has_low_flag octets = is_set (octet octets 2) 0x01

-- the data number of MP_FAIL, the key of MP_FASTCLOSE
abbrev pub number_at_4 : List ℕ → ℕ
number_at_4 octets = number_at w64 octets 4
