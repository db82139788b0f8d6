-- MP_JOIN (RFC 8684, section 3.2): subtype 1, with flag B 0x01 in its octet on SYN and SYN/ACK.
use Rattle.std.specs.Prelude.{◌≡◌, ℕ, ◌<◌, ◌^◌, ◌==◌, if◌then◌else◌, List, ◌∷◌, ◌++◌, length, take, drop, bit_or}
use Rattle.std.specs.Int.{w32, w64, to_be_bytes}
use Rattle.mptcp_options.specs.declared.join.JoinForm.{JoinForm}
use Rattle.mptcp_options.specs.declared.join.JoinForm.TheVariants.{Syn, Answer, Third}
use Rattle.key_material.specs.Octets.{AreOctets}
use Rattle.octet_text.specs.Octets.{octet, number_at, is_set}
use Rattle.mptcp_options.specs.Octets.{flag_if}

-- the octets after kind and length
abbrev pub join_body : JoinForm → List ℕ
join_body (Syn backup id token nonce) = bit_or 0x10 (flag_if backup 0x01) ∷ id ∷ to_be_bytes w32 token ++ to_be_bytes w32 nonce
join_body (Answer backup id hmac nonce) = bit_or 0x10 (flag_if backup 0x01) ∷ id ∷ to_be_bytes w64 hmac ++ to_be_bytes w32 nonce
join_body (Third hmac) = 0x10 ∷ 0 ∷ hmac

-- the form as it is read: the length tells it
abbrev pub form_at : List ℕ → JoinForm
form_at octets =
    if length octets == 12
    then Syn (is_set (octet octets 2) 0x01) (octet octets 3) (number_at w32 octets 4) (number_at w32 octets 8)
    else (if length octets == 16
    then Answer (is_set (octet octets 2) 0x01) (octet octets 3) (number_at w64 octets 4) (number_at w32 octets 12)
    else Third (take 20 (drop 4 octets)))

-- each field has the range of its type
abbrev pub FormFits : JoinForm → Type 0
FormFits (Syn backup id token nonce) = (id < 256) × (token < 2 ^ 32) × (nonce < 2 ^ 32)
FormFits (Answer backup id hmac nonce) = (id < 256) × (hmac < 2 ^ 64) × (nonce < 2 ^ 32)
FormFits (Third hmac) = AreOctets hmac × (length hmac ≡ 20)
