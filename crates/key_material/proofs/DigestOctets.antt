-- The octets of a SHA-256 digest: 32, each below 256, so what is read from some of them writes them again.
use Rattle.std.proofs.Common.{◌≡◌, ℕ, zero, suc, List, length, take, drop, refl, arith}
use Rattle.std.specs.Int.{w32, w64, from_be_bytes, to_be_bytes}
use Rattle.std.specs.Prelude.{slice_index}
use Rattle.std.proofs.lemmas.List.{length-take, length-drop}
use Rattle.std.proofs.lemmas.Nat.{be_bytes_4, be_bytes_8}
use Rattle.sha2.specs.Sha256.{sha256, digest_bytes}
use Rattle.sha2.proofs.Facts256.{length-sha256}
use Rattle.key_material.specs.Octets.{AreOctets}
use Rattle.key_material.specs.KeyDigest.{key_digest}
use Rattle.key_material.specs.Hmac.{hmac_of}
use Rattle.key_material.proofs.Octets.{each_octet, AreOctets-none, AreOctets-append, AreOctets-to_be_bytes, AreOctets-take, AreOctets-drop}

AreOctets-digest_bytes : (h : List ℕ) (n : ℕ) → AreOctets (digest_bytes h n)
unfolding digest_bytes
AreOctets-digest_bytes h zero = AreOctets-none
AreOctets-digest_bytes h (suc n) =
    AreOctets-append (digest_bytes h n) (to_be_bytes w32 (slice_index h n)) (AreOctets-digest_bytes h n) (AreOctets-to_be_bytes w32 (slice_index h n))

-- 32 octets
pub record IsDigest (xs : List ℕ) : Type 0 where
  pub octets : AreOctets xs
  pub long : length xs ≡ 32

IsDigest-sha256 : (message : List ℕ) → IsDigest (sha256 message)
unfolding sha256
IsDigest-sha256 message = record { octets = AreOctets-digest_bytes _ 8; long = length-sha256 message }

pub IsDigest-key_digest : (key : ℕ) → IsDigest (key_digest key)
unfolding key_digest
IsDigest-key_digest key = IsDigest-sha256 _

pub IsDigest-hmac_of : (key message : List ℕ) → IsDigest (hmac_of key message)
unfolding hmac_of
IsDigest-hmac_of key message = IsDigest-sha256 _

module _ (digest : List ℕ) (is_digest : IsDigest digest) where
  pub first_4 : to_be_bytes w32 (from_be_bytes w32 (take 4 digest)) ≡ take 4 digest
  first_4 = be_bytes_4 (take 4 digest) _ (simp length-take (omega (arith, is_digest.long)))
      (each_octet _ (AreOctets-take 4 digest is_digest.octets)) refl

  pub first_8 : to_be_bytes w64 (from_be_bytes w64 (take 8 digest)) ≡ take 8 digest
  first_8 = be_bytes_8 (take 8 digest) _ (simp length-take (omega (arith, is_digest.long)))
      (each_octet _ (AreOctets-take 8 digest is_digest.octets)) refl

  pub last_8 : to_be_bytes w64 (from_be_bytes w64 (drop 24 digest)) ≡ drop 24 digest
  last_8 = be_bytes_8 (drop 24 digest) _ (simp length-drop (omega (arith, is_digest.long)))
      (each_octet _ (AreOctets-drop 24 digest is_digest.octets)) refl
