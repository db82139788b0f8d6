-- Elements of lists by place, and the elements from the first on that pass a test.
--
-- Loops over runs (`RangeMarks::runs`): a definition by recursion on the list of runs for each loop, and the invariant
-- that what is left gives the same answer as all. Lemmas lead from there to the marks by place.
use Rattle.std.proofs.Common.{◌≡◌, refl, ◌∙◌, ap, ℕ, zero, suc, ◌+◌, ◌-◌, ◌<◌, ◌≤◌, Bool, true, false, not, cond, List, [], ◌∷◌, ◌++◌, length, take, drop, map, replicate, Some, arith}
use Rattle.std.proofs.lemmas.Grind.{common_steps}
use Rattle.std.proofs.lemmas.Option.{slice_get-map}
use Rattle.std.specs.Option.{option_map}
use Rattle.std.specs.List.{slice_get, prefix_len, position_or_len}

module _ {X : Type 0} where
  pub slice_get-append_left : (xs ys : List X) (k : ℕ) → k < length xs → slice_get (xs ++ ys) k ≡ slice_get xs k
  slice_get-append_left [] ys k within = absurd (omega (arith, within))
  slice_get-append_left (x ∷ xs) ys zero within = refl
  slice_get-append_left (x ∷ xs) ys (suc k) within = slice_get-append_left xs ys k (omega (arith, within))

  pub slice_get-append_right : (xs ys : List X) (k j : ℕ) → j ≡ length xs + k → slice_get (xs ++ ys) j ≡ slice_get ys k
  slice_get-append_right [] ys k j e = ap (slice_get ys) (omega (arith, e))
  slice_get-append_right (x ∷ xs) ys k zero e = absurd (omega (arith, e))
  slice_get-append_right (x ∷ xs) ys k (suc j) e = slice_get-append_right xs ys k j (omega (arith, e))

  pub slice_get-take : (n : ℕ) (xs : List X) (k : ℕ) → k < n → slice_get (take n xs) k ≡ slice_get xs k
  slice_get-take zero xs k below = absurd (omega (arith, below))
  slice_get-take (suc n) [] k below = refl
  slice_get-take (suc n) (x ∷ xs) zero below = refl
  slice_get-take (suc n) (x ∷ xs) (suc k) below = slice_get-take n xs k (omega (arith, below))

  pub slice_get-drop : (n : ℕ) (xs : List X) (k j : ℕ) → j ≡ n + k → slice_get (drop n xs) k ≡ slice_get xs j
  slice_get-drop zero xs k j e = ap (slice_get xs) (omega (arith, e))
  slice_get-drop (suc n) [] k j e = refl
  slice_get-drop (suc n) (x ∷ xs) k zero e = absurd (omega (arith, e))
  slice_get-drop (suc n) (x ∷ xs) k (suc j) e = slice_get-drop n xs k j (omega (arith, e))

  pub slice_get-replicate : (n k : ℕ) (x : X) → k < n → slice_get (replicate n x) k ≡ Some x
  slice_get-replicate zero k x below = absurd (omega (arith, below))
  slice_get-replicate (suc n) zero x below = refl
  slice_get-replicate (suc n) (suc k) x below = slice_get-replicate n k x (omega (arith, below))

  -- each of the first elements passes
  pub slice_get-prefix : (p : X → Bool) (xs : List X) (k : ℕ) (x : X) → k < prefix_len p xs → slice_get xs k ≡ Some x → p x ≡ true
  slice_get-prefix p [] k x below e = cc
  slice_get-prefix p (y ∷ xs) k x below e = first (p y) k refl (λ k. slice_get-prefix p xs k x) below e
    where
      first : (b : Bool) (k : ℕ) → p y ≡ b → ((k : ℕ) → k < prefix_len p xs → slice_get xs k ≡ Some x → p x ≡ true)
          → k < cond b (1 + prefix_len p xs) 0 → slice_get (y ∷ xs) k ≡ Some x → p x ≡ true
      first true zero is rest below e = let same : y ≡ x = cc in rw (← same) is
      first true (suc k) is rest below e = rest k (omega (arith, below)) e
      first false k is rest below e = absurd (omega (arith, below))

  pub prefix_len-le : (p : X → Bool) (xs : List X) → prefix_len p xs ≤ length xs
  prefix_len-le p [] = omega arith
  prefix_len-le p (x ∷ xs) = (elim (p x) as (λ b. prefix_len p xs ≤ length xs → cond b (1 + prefix_len p xs) 0 ≤ length (x ∷ xs))
      [ true ↦ λ rest. omega (arith, rest) | false ↦ λ rest. omega arith ]) (prefix_len-le p xs)

  -- where an element passes, at least one does from the first such on
  pub prefix_len-position : (p : X → Bool) (xs : List X) → position_or_len p xs < length xs → 1 ≤ prefix_len p (drop (position_or_len p xs) xs)
  prefix_len-position p [] within = absurd (omega (arith, within))
  prefix_len-position p (x ∷ xs) within = first (p x) refl (prefix_len-position p xs) within
    where
      first : (b : Bool) → p x ≡ b
          → (position_or_len p xs < length xs → 1 ≤ prefix_len p (drop (position_or_len p xs) xs))
          → cond (not b) (1 + position_or_len p xs) 0 < length (x ∷ xs)
          → 1 ≤ prefix_len p (drop (cond (not b) (1 + position_or_len p xs) 0) (x ∷ xs))
      first true is rest within = rw is (omega arith)
      first false is rest within =
          let next : 1 + position_or_len p xs ≡ suc (position_or_len p xs) = omega arith in
          rw next (rest (omega (arith, within)))

-- a part of a list, changed
module _ {X : Type 0} (change : X → X) (from n to : ℕ) (xs : List X) (whole : to ≡ from + n) (within : to ≤ length xs) where
  changed : List X
  changed = take from xs ++ (map change (take n (drop from xs)) ++ drop to xs)

  pub slice_get-changed_below : (k : ℕ) → k < from → slice_get (take from xs ++ (map change (take n (drop from xs)) ++ drop to xs)) k ≡ slice_get xs k
  slice_get-changed_below k below =
      slice_get-append_left (take from xs) _ k (grind (arith, common_steps)) ∙ slice_get-take from xs k below

  pub slice_get-changed_inside : (k : ℕ) → from ≤ k → k < to
      → slice_get (take from xs ++ (map change (take n (drop from xs)) ++ drop to xs)) k ≡ option_map change (slice_get xs k)
  slice_get-changed_inside k above below =
      slice_get-append_right (take from xs) _ (k - from) k (grind (arith, common_steps))
      ∙ slice_get-append_left (map change (take n (drop from xs))) _ (k - from) (grind (arith, common_steps))
      ∙ slice_get-map change (take n (drop from xs)) (k - from)
      ∙ ap (option_map change) (slice_get-take n (drop from xs) (k - from) (omega (arith, above, below, whole))
      ∙ slice_get-drop from xs (k - from) k (omega (arith, above)))

  pub slice_get-changed_above : (k : ℕ) → to ≤ k → slice_get (take from xs ++ (map change (take n (drop from xs)) ++ drop to xs)) k ≡ slice_get xs k
  slice_get-changed_above k above =
      slice_get-append_right (take from xs) _ (k - from) k (grind (arith, common_steps))
      ∙ slice_get-append_right (map change (take n (drop from xs))) _ (k - to) (k - from) (grind (arith, common_steps))
      ∙ slice_get-drop to xs (k - to) k (omega (arith, above))
