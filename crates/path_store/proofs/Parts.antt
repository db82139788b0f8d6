-- Octets that are lent part by part, as many as are wanted.
use Rattle.std.proofs.Common.{◌≡◌, refl, ap, ℕ, zero, suc, ◌+◌, List, [], ◌∷◌, ◌++◌, length, take}
pub use Rattle.byte_pieces.proofs.Taken.{part-taken}
use Rattle.seq_units.specs.declared.mapping.Mapping.{Mapping}
use Rattle.dss_checksum.specs.MappingSum.{MappingSum, sum_of}

-- a sum over a mapping and some octets, so many of which are still to be added
pub record Summed (mapping : Mapping) (count left : ℕ) (sum : MappingSum) (rest all : List ℕ) : Type 0 where
  pub added : List ℕ
  pub is : sum ≡ sum_of mapping added
  pub few : length added + left ≡ count
  pub whole : added ++ take left rest ≡ take count all

pub append-nil : {X : Type 0} (xs : List X) → xs ++ [] ≡ xs
append-nil [] = refl
append-nil (x ∷ xs) = ap (λ rest. x ∷ rest) (append-nil xs)

pub take-nil : (n : ℕ) → take {A = ℕ} n [] ≡ []
take-nil zero = refl
take-nil (suc n) = refl
