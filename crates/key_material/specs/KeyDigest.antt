-- What is made of one key (RFC 8684, sections 3.1 and 3.2).
use Rattle.std.specs.Prelude.{ℕ, List, take, drop}
use Rattle.std.specs.Int.{w32, w64, from_be_bytes, to_be_bytes}
use Rattle.sha2.specs.Sha256.{sha256}

-- the SHA-256 of the key's eight octets, in network order: 32 octets
unfoldable pub key_digest : ℕ → List ℕ
key_digest key = sha256 (to_be_bytes w64 key)

-- the token: the first 32 bits
abbrev pub token_of : ℕ → ℕ
token_of key = from_be_bytes w32 (take 4 (key_digest key))

-- the initial data sequence number: the last 64 bits
abbrev pub idsn_of : ℕ → ℕ
idsn_of key = from_be_bytes w64 (drop 24 (key_digest key))
