-- HMAC (RFC 2104) over SHA-256, whose block has 64 octets, for keys that fit one block.
use Rattle.std.specs.Prelude.{ℕ, ◌-◌, List, ◌++◌, length, map, replicate, bit_xor}
use Rattle.sha2.specs.Sha256.{sha256}

-- the key, filled with zeros to a block
abbrev pub filled_key : List ℕ → List ℕ
filled_key key = key ++ replicate (64 - length key) 0

-- each octet of that block mixed with the pad
unfoldable pub mixed_key : ℕ → List ℕ → List ℕ
mixed_key pad key = map (λ octet. bit_xor octet pad) (filled_key key)

-- the outer hash, under the pad 0x5C, of the inner hash, under the pad 0x36, of the message: 32 octets
unfoldable pub hmac_of : List ℕ → List ℕ → List ℕ
hmac_of key message = sha256 (mixed_key 0x5C key ++ sha256 (mixed_key 0x36 key ++ message))
