-- One connection of a table in another one's place.
use Rattle.std.proofs.Common.{◌≡◌, refl, sym, ◌∙◌, ap, ℕ, zero, suc, ◌<◌, Option, Some, None, List, [], ◌∷◌, get_or, length, map, subst, arith}
use Rattle.std.specs.Prelude.{IsSomeAnd}
use Rattle.std.specs.List.{slice_get, slice_set}
use Rattle.std.proofs.lemmas.Option.{same_Some}
use Rattle.connection_table.specs.Tables.{Entry, entry_at, input_of, with_entry}

-- one that began with the same
pub same_inputs : (table : List Entry) (number : ℕ) (old new : Entry) → entry_at number table ≡ Some old → new.input ≡ old.input
    → map input_of (with_entry number new table) ≡ map input_of table
same_inputs [] number old new there same = refl
same_inputs (e ∷ table) zero old new there same = ap (λ input. input ∷ map input_of table) (same ∙ ap input_of (sym (same_Some e old there)))
same_inputs (e ∷ table) (suc number) old new there same = ap (λ inputs. e.input ∷ inputs) (same_inputs table number old new there same)

-- the new entry stands at its number
pub set_there : (table : List Entry) (number : ℕ) (old new : Entry) → entry_at number table ≡ Some old → entry_at number (with_entry number new table) ≡ Some new
set_there [] number old new there = cc
set_there (e ∷ table) zero old new there = refl
set_there (e ∷ table) (suc number) old new there = set_there table number old new there

-- ---- what is read and written at a place

pub at_place : {X : Type 0} (xs : List X) (i : ℕ) (x : X) → i < length xs → x ≡ get_or xs i x → slice_get xs i ≡ Some x
at_place {X = X} [] i x within is = absurd (omega (arith, within))
at_place {X = X} (y ∷ xs) zero x within is = ap (λ (z : X). Some z) (sym is)
at_place {X = X} (y ∷ xs) (suc i) x within is = at_place xs i x (omega (arith, within)) is

-- P holds of what is there
pub some_and : {X : Type 0} (o : Option X) (x : X) (P : X → Type 0) → o ≡ Some x → P x → IsSomeAnd o P
some_and None x P there h = cc
some_and (Some y) x P there h = subst P (sym (same_Some y x there)) h

-- what is there again changes nothing
pub set_back : {X : Type 0} (xs : List X) (i : ℕ) (x : X) → slice_get xs i ≡ Some x → slice_set xs i x ≡ xs
set_back {X = X} [] i x there = refl
set_back {X = X} (y ∷ xs) zero x there = ap (λ (z : X). z ∷ xs) (sym (same_Some y x there))
set_back {X = X} (y ∷ xs) (suc i) x there = ap (λ (zs : List X). y ∷ zs) (set_back xs i x there)
