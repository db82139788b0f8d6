-- The HMACs of a join (RFC 8684, section 3.2). A begins the join. The HMAC of each side has its own key and its
-- own nonce first.
use Rattle.std.specs.Prelude.{ℕ, List, ◌++◌, take}
use Rattle.std.specs.Int.{w32, w64, from_be_bytes, to_be_bytes}
use Rattle.key_material.specs.Hmac.{hmac_of}

-- two keys as one of 16 octets, each in network order
abbrev pub two_keys : ℕ → ℕ → List ℕ
two_keys first second = to_be_bytes w64 first ++ to_be_bytes w64 second

-- two nonces as one message of 8 octets, each in network order
abbrev pub two_nonces : ℕ → ℕ → List ℕ
two_nonces first second = to_be_bytes w32 first ++ to_be_bytes w32 second

-- the HMAC of A: Key-A and Key-B, over R-A and R-B
abbrev pub hmac_of_a : ℕ → ℕ → ℕ → ℕ → List ℕ
hmac_of_a key_a key_b nonce_a nonce_b = hmac_of (two_keys key_a key_b) (two_nonces nonce_a nonce_b)

-- the HMAC of B: Key-B and Key-A, over R-B and R-A
abbrev pub hmac_of_b : ℕ → ℕ → ℕ → ℕ → List ℕ
hmac_of_b key_a key_b nonce_a nonce_b = hmac_of (two_keys key_b key_a) (two_nonces nonce_b nonce_a)

-- what B's SYN/ACK carries: the first 64 bits of the HMAC of B
abbrev pub join_b64_of : ℕ → ℕ → ℕ → ℕ → ℕ
join_b64_of key_a key_b nonce_a nonce_b = from_be_bytes w64 (take 8 (hmac_of_b key_a key_b nonce_a nonce_b))

-- what A's third ACK carries: the first 160 bits of the HMAC of A
abbrev pub join_a160_of : ℕ → ℕ → ℕ → ℕ → List ℕ
join_a160_of key_a key_b nonce_a nonce_b = take 20 (hmac_of_a key_a key_b nonce_a nonce_b)
