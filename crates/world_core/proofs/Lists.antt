-- Folds over the actors, and what stands at a place.
use Rattle.std.proofs.Common.{◌≡◌, refl, sym, ◌∙◌, ap, subst, ℕ, zero, suc, ◌<◌, ◌≤◌, ◌&&◌, Some, None, List, [], ◌∷◌, length, set, Result, Ok, Err, OnOk, OnErr, arith}
use Rattle.std.proofs.lemmas.Option.{same_Some, slice_get-get_or}
use Rattle.std.specs.List.{slice_get, slice_index_or, list_all}
use Rattle.world_laws.specs.Actors.{ActorCrew, is_over}
use Rattle.world_laws.specs.Outcomes.{is_no_live_path, are_all_dead}
use Rattle.world_laws.specs.Worlds.{all_over}

module _ {C : Type 0} where
  pub all_over_is : (crew : List (ActorCrew C)) → list_all (λ c. is_over c.member) crew ≡ all_over crew
  all_over_is [] = refl
  all_over_is (c ∷ crew) = ap (λ b. is_over c.member && b) (all_over_is crew)

  pub are_all_dead_is : (crew : List (ActorCrew C)) → list_all (λ c. is_no_live_path c.member) crew ≡ are_all_dead crew
  are_all_dead_is [] = refl
  are_all_dead_is (c ∷ crew) = ap (λ b. is_no_live_path c.member && b) (are_all_dead_is crew)

module _ {X : Type 0} where
  -- what stands at a place is put there again
  pub put_again : (xs : List X) (i : ℕ) (x : X) → slice_get xs i ≡ Some x → set xs i x ≡ xs
  put_again [] i x there = refl
  put_again (y ∷ xs) zero x there = let same : y ≡ x = same_Some y x there in ap (λ z. z ∷ xs) (sym same)
  put_again (y ∷ xs) (suc i) x there = ap (λ zs. y ∷ zs) (put_again xs i x there)

-- what follows at Ok from two facts at Ok
pub both_ok : {T E P Q R : Type 0} (r : Result T E) → (P → Q → R) → OnOk r P → OnOk r Q → OnOk r R
both_ok (Ok x) f p q = f p q
both_ok (Err e) f p q = tt

pub both_err : {T E P Q R : Type 0} (r : Result T E) → (P → Q → R) → OnErr r P → OnErr r Q → OnErr r R
both_err (Ok x) f p q = tt
both_err (Err e) f p q = f p q

module _ {X : Type 0} where
  -- what is lent at a place
  pub found : (xs : List X) (i j : ℕ) (x : X) → j ≡ i → j < length xs → x ≡ slice_index_or xs j x → slice_get xs i ≡ Some x
  found xs i j x same within is = subst (λ n. slice_get xs n ≡ Some x) same (slice_get-get_or xs j x within ∙ ap Some (sym is))

  pub beyond : (xs : List X) (i j : ℕ) → j ≡ i → length xs ≤ j → slice_get xs i ≡ None
  beyond xs i j same past = subst (λ n. slice_get xs n ≡ None) same (by xs j past)
    where
      by : (xs : List X) (j : ℕ) → length xs ≤ j → slice_get xs j ≡ None
      by [] j past = refl
      by (x ∷ xs) zero past = absurd (omega (arith, past))
      by (x ∷ xs) (suc j) past = by xs j (omega (arith, past))
