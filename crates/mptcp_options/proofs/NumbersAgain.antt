-- Fields of an option, both ways: a number that is read of octets writes them again, and fields one after another are
-- what stands there.
use Rattle.std.proofs.Common.{◌≡◌, ℕ, ◌+◌, ◌<◌, ◌≤◌, ◌^◌, List, ◌++◌, length, take, drop, refl, arith}
use Rattle.std.specs.Int.{w16, w32, w64, to_be_bytes}
use Rattle.std.proofs.lemmas.List.{length-take, length-drop, take-append-drop, take_all, drop-drop}
use Rattle.std.proofs.lemmas.Nat.{be_bytes_2, be_bytes_4, be_bytes_8}
use Rattle.key_material.specs.Octets.{AreOctets}
use Rattle.key_material.proofs.Octets.{each_octet, AreOctets-take, AreOctets-drop}
use Rattle.key_material.proofs.Bounds.{from_be_bytes_2_below, from_be_bytes_4_below, from_be_bytes_8_below}
use Rattle.octet_text.specs.Octets.{number_at}

module _ (octets : List ℕ) (are : AreOctets octets) where
  pub written_again_16 : (place : ℕ) → place + 2 ≤ length octets
      → to_be_bytes w16 (number_at w16 octets place) ≡ take 2 (drop place octets)
  written_again_16 place inside =
      be_bytes_2 (take 2 (drop place octets)) _ (simp (length-take, length-drop) (omega arith))
      (each_octet _ (AreOctets-take 2 _ (AreOctets-drop place octets are))) refl

  pub written_again_32 : (place : ℕ) → place + 4 ≤ length octets
      → to_be_bytes w32 (number_at w32 octets place) ≡ take 4 (drop place octets)
  written_again_32 place inside =
      be_bytes_4 (take 4 (drop place octets)) _ (simp (length-take, length-drop) (omega arith))
      (each_octet _ (AreOctets-take 4 _ (AreOctets-drop place octets are))) refl

  pub written_again_64 : (place : ℕ) → place + 8 ≤ length octets
      → to_be_bytes w64 (number_at w64 octets place) ≡ take 8 (drop place octets)
  written_again_64 place inside =
      be_bytes_8 (take 8 (drop place octets)) _ (simp (length-take, length-drop) (omega arith))
      (each_octet _ (AreOctets-take 8 _ (AreOctets-drop place octets are))) refl

-- a number that is read fits its field
module _ (octets : List ℕ) (are : AreOctets octets) (place : ℕ) where
  pub fits_16 : number_at w16 octets place < 2 ^ 16
  fits_16 = from_be_bytes_2_below (take 2 (drop place octets)) (AreOctets-take 2 _ (AreOctets-drop place octets are))

  pub fits_32 : number_at w32 octets place < 2 ^ 32
  fits_32 = from_be_bytes_4_below (take 4 (drop place octets)) (AreOctets-take 4 _ (AreOctets-drop place octets are))

  pub fits_64 : number_at w64 octets place < 2 ^ 64
  fits_64 = from_be_bytes_8_below (take 8 (drop place octets)) (AreOctets-take 8 _ (AreOctets-drop place octets are))

-- a field, and all that follows it
pub field_and_rest : (octets : List ℕ) (place n next : ℕ) → next ≡ place + n
    → take n (drop place octets) ++ drop next octets ≡ drop place octets
field_and_rest octets place n next e = rw (e, ← drop-drop n place octets) (take-append-drop n (drop place octets))

-- the last field
pub last_field : (octets : List ℕ) (place n : ℕ) → length octets ≡ place + n → take n (drop place octets) ≡ drop place octets
last_field octets place n e = take_all n (drop place octets) (simp length-drop (omega arith))

-- a field that is what stands at its place, before what stands after it
pub then_rest : (field rest octets : List ℕ) (place n next : ℕ) → next ≡ place + n → field ≡ take n (drop place octets)
    → rest ≡ drop next octets → field ++ rest ≡ drop place octets
then_rest field rest octets place n next e is_field is_rest = rw (is_field, is_rest) (field_and_rest octets place n next e)
