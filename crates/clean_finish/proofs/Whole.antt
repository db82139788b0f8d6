-- What came is in order: no place of a list of places is empty.
use Rattle.clean_finish.proofs.Words.{◌≡◌, refl, sym, ap, ◌∙◌, ℕ, min, Bool, true, false, if◌then◌else◌, Option, List, [], ◌∷◌, length, map, Some, suc, zero}
use Rattle.clean_finish.proofs.Words.{is_some, drop, Arriving, filled, after_read, after_reading}

pub filled_some : (xs : List ℕ) → filled (map Some xs) ≡ xs
filled_some [] = refl
filled_some (x ∷ xs) = ap (λ (ys : List ℕ). x ∷ ys) (filled_some xs)

pub drop_some : (n : ℕ) (xs : List ℕ) → drop n (map Some xs) ≡ map Some (drop n xs)
drop_some zero xs = refl
drop_some (suc n) [] = refl
drop_some (suc n) (x ∷ xs) = drop_some n xs

pub whole_by : (xs : List ℕ) (places : List (Option ℕ)) → places ≡ map Some xs → places ≡ map Some (filled places)
whole_by xs places is = is ∙ sym (ap (λ (ys : List (Option ℕ)). map Some (filled ys)) is ∙ ap (λ (ys : List ℕ). map Some ys) (filled_some xs))

-- reading leaves it so
pub read_whole : (most : ℕ) (b : Arriving) → b.places ≡ map Some (filled b.places) → (after_read most b).places ≡ map Some (filled (after_read most b).places)
read_whole most b is = by (is_some b.aborted)
  where
    by : (aborted : Bool) → (if aborted then b else after_reading most b).places ≡ map Some (filled (if aborted then b else after_reading most b).places)
    by true = is
    by false =
        let n = min most (length (filled b.places)) in
        whole_by (drop n (filled b.places)) (drop n b.places) (ap (λ (ys : List (Option ℕ)). drop n ys) is ∙ drop_some n (filled b.places))
