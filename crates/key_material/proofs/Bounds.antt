-- What fits where: tokens and words in 32 bits, truncated HMACs in 64, A's HMAC of a join in 20
-- octets.
use Rattle.std.proofs.Common.{◌≡◌, ℕ, ◌<◌, ◌^◌, List, length, take, drop, arith}
use Rattle.std.specs.Int.{w16, w32, w64, from_be_bytes}
use Rattle.std.proofs.lemmas.List.{length-take}
use Rattle.key_material.specs.declared.address.Address.{Address}
use Rattle.key_material.specs.KeyDigest.{key_digest, token_of}
use Rattle.key_material.specs.JoinHmac.{hmac_of_a, hmac_of_b, join_a160_of, join_b64_of}
use Rattle.key_material.specs.AddressHmac.{address_hmac, add_addr64_of}
use Rattle.key_material.specs.Drawing.{drawn_word}
use Rattle.rand_chacha.specs.Block.{block_word}
use Rattle.key_material.specs.Octets.{AreOctets}
use Rattle.key_material.proofs.Octets.{each_octet, AreOctets-take, AreOctets-drop}
use Rattle.key_material.proofs.DigestOctets.{IsDigest, IsDigest-key_digest, IsDigest-hmac_of}

pub from_be_bytes_2_below : (octets : List ℕ) → AreOctets octets → from_be_bytes w16 octets < 2 ^ 16
from_be_bytes_2_below octets are =
    let each = each_octet octets are in omega (arith, each 0, each 1)

pub from_be_bytes_4_below : (octets : List ℕ) → AreOctets octets → from_be_bytes w32 octets < 2 ^ 32
from_be_bytes_4_below octets are =
    let each = each_octet octets are in omega (arith, each 0, each 1, each 2, each 3)

pub from_be_bytes_8_below : (octets : List ℕ) → AreOctets octets → from_be_bytes w64 octets < 2 ^ 64
from_be_bytes_8_below octets are =
    let each = each_octet octets are in omega (arith, each 0, each 1, each 2, each 3, each 4, each 5, each 6, each 7)

pub token_of_below : (key : ℕ) → token_of key < 2 ^ 32
token_of_below key = from_be_bytes_4_below (take 4 (key_digest key)) (AreOctets-take 4 _ (IsDigest-key_digest key).octets)

pub join_b64_of_below : (key_a key_b nonce_a nonce_b : ℕ) → join_b64_of key_a key_b nonce_a nonce_b < 2 ^ 64
join_b64_of_below key_a key_b nonce_a nonce_b =
    from_be_bytes_8_below (take 8 (hmac_of_b key_a key_b nonce_a nonce_b)) (AreOctets-take 8 _ (IsDigest-hmac_of _ _).octets)

pub add_addr64_of_below : (sender receiver id : ℕ) (address : Address) (port : ℕ)
    → add_addr64_of sender receiver id address port < 2 ^ 64
add_addr64_of_below sender receiver id address port =
    from_be_bytes_8_below (drop 24 (address_hmac sender receiver id address port)) (AreOctets-drop 24 _ (IsDigest-hmac_of _ _).octets)

pub length-join_a160_of : (key_a key_b nonce_a nonce_b : ℕ) → length (join_a160_of key_a key_b nonce_a nonce_b) ≡ 20
length-join_a160_of key_a key_b nonce_a nonce_b =
    let digest : IsDigest (hmac_of_a key_a key_b nonce_a nonce_b) = IsDigest-hmac_of _ _ in
    simp length-take (omega (arith, digest.long))

pub AreOctets-join_a160_of : (key_a key_b nonce_a nonce_b : ℕ) → AreOctets (join_a160_of key_a key_b nonce_a nonce_b)
AreOctets-join_a160_of key_a key_b nonce_a nonce_b = AreOctets-take 20 _ (IsDigest-hmac_of _ _).octets

pub drawn_word_below : (seed stream word : ℕ) → drawn_word seed stream word < 2 ^ 32
unfolding drawn_word block_word
drawn_word_below seed stream word = omega arith
