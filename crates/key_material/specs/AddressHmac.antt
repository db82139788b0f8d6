-- The HMAC of an announced address (RFC 8684, section 3.4.1).
use Rattle.std.specs.Prelude.{ℕ, List, ◌∷◌, ◌++◌, drop}
use Rattle.std.specs.Int.{w16, w64, from_be_bytes, to_be_bytes}
use Rattle.key_material.specs.declared.address.Address.{Address}
use Rattle.key_material.specs.Address.{octets_of}
use Rattle.key_material.specs.Hmac.{hmac_of}
use Rattle.key_material.specs.JoinHmac.{two_keys}

-- the key of the side that announces, then the other's, over id, address and port
abbrev pub address_hmac : ℕ → ℕ → ℕ → Address → ℕ → List ℕ
address_hmac sender receiver id address port =
    hmac_of (two_keys sender receiver) (id ∷ octets_of address ++ to_be_bytes w16 port)

-- what ADD_ADDR carries: the last 64 bits of it
abbrev pub add_addr64_of : ℕ → ℕ → ℕ → Address → ℕ → ℕ
add_addr64_of sender receiver id address port = from_be_bytes w64 (drop 24 (address_hmac sender receiver id address port))
