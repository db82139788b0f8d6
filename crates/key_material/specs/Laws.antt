-- The laws of HMACs and of what is cut from them.
use Rattle.std.specs.Prelude.{◌≡◌, ℕ, List, [], ◌∷◌, take, drop}
use Rattle.std.specs.Int.{w32, w64, to_be_bytes}
use Rattle.std.specs.List.{flat_map}
use Rattle.key_material.specs.declared.address.Address.{Address}
use Rattle.key_material.specs.KeyDigest.{key_digest, token_of, idsn_of}
use Rattle.key_material.specs.Hmac.{hmac_of}
use Rattle.key_material.specs.JoinHmac.{hmac_of_a, hmac_of_b, join_a160_of, join_b64_of}
use Rattle.key_material.specs.AddressHmac.{address_hmac, add_addr64_of}

-- a prefix of a message and the rest, cut at any place, have the HMAC of the message
abbrev pub MessageMayBeCutAnywhere : Type 0
MessageMayBeCutAnywhere = (key message : List ℕ) (place : ℕ)
    → hmac_of key (flat_map (λ piece. piece) (take place message ∷ drop place message ∷ [])) ≡ hmac_of key message

-- the octets of a key's token and initial data sequence number are a prefix and the end of its digest
abbrev pub KeyDigestIsCut : Type 0
KeyDigestIsCut = (key : ℕ) → (to_be_bytes w32 (token_of key) ≡ take 4 (key_digest key))
    × (to_be_bytes w64 (idsn_of key) ≡ drop 24 (key_digest key))

-- the octets of a join's HMACs are prefixes of B's and of A's
abbrev pub JoinHmacsArePrefixes : Type 0
JoinHmacsArePrefixes = (key_a key_b nonce_a nonce_b : ℕ)
    → (to_be_bytes w64 (join_b64_of key_a key_b nonce_a nonce_b) ≡ take 8 (hmac_of_b key_a key_b nonce_a nonce_b))
    × (join_a160_of key_a key_b nonce_a nonce_b ≡ take 20 (hmac_of_a key_a key_b nonce_a nonce_b))

-- the octets of an announced address's HMAC are the end of the whole
abbrev pub AddressHmacIsTheEnd : Type 0
AddressHmacIsTheEnd = (sender receiver id port : ℕ) (address : Address)
    → to_be_bytes w64 (add_addr64_of sender receiver id address port) ≡ drop 24 (address_hmac sender receiver id address port)
