-- Sums over lists, and what they tell of one member.
use Rattle.ruled_desk.proofs.Words.{◌≡◌, refl, sym, ap, ℕ, zero, suc, ◌≤◌, List, [], ◌∷◌, ◌++◌, arith, ◌+◌, set, ◌≢◌, some, some-injective, some-ne-none}
use Rattle.ruled_desk.proofs.Words.{get_elem?, weigh, span}

module _ {X : Type 0} where
  pub weigh-append : (h : X → ℕ) (xs ys : List X) → weigh h (xs ++ ys) ≡ weigh h xs + weigh h ys
  weigh-append h [] ys = omega arith
  weigh-append h (x ∷ xs) ys = let rest = weigh-append h xs ys in omega arith

  -- one member is another now
  pub weigh-set : (h : X → ℕ) (xs : List X) (i : ℕ) (x y : X) → get_elem? xs i ≡ some x → weigh h (set xs i y) + h x ≡ weigh h xs + h y
  weigh-set h [] i x y at = absurd (some-ne-none x (sym at))
  weigh-set h (z ∷ xs) zero x y at = let same : h z ≡ h x = ap h (some-injective z x at) in omega arith
  weigh-set h (z ∷ xs) (suc i) x y at = let rest = weigh-set h xs i x y at in omega arith

  -- a member weighs no more than all
  pub weigh-one : (h : X → ℕ) (xs : List X) (i : ℕ) (x : X) → get_elem? xs i ≡ some x → h x ≤ weigh h xs
  weigh-one h [] i x at = absurd (some-ne-none x (sym at))
  weigh-one h (z ∷ xs) zero x at = let same : h z ≡ h x = ap h (some-injective z x at) in omega arith
  weigh-one h (z ∷ xs) (suc i) x at = let rest = weigh-one h xs i x at in omega arith

  -- nor do two
  pub weigh-two : (h : X → ℕ) (xs : List X) (i j : ℕ) (x y : X) → get_elem? xs i ≡ some x → get_elem? xs j ≡ some y → j ≢ i → h x + h y ≤ weigh h xs
  weigh-two h [] i j x y at there apart = absurd (some-ne-none x (sym at))
  weigh-two h (z ∷ xs) zero zero x y at there apart = absurd (apart refl)
  weigh-two h (z ∷ xs) zero (suc j) x y at there apart =
      let same : h z ≡ h x = ap h (some-injective z x at) in let rest = weigh-one h xs j y there in omega arith
  weigh-two h (z ∷ xs) (suc i) zero x y at there apart =
      let same : h z ≡ h y = ap h (some-injective z y there) in let rest = weigh-one h xs i x at in omega arith
  weigh-two h (z ∷ xs) (suc i) (suc j) x y at there apart =
      let rest = weigh-two h xs i j x y at there (λ e. apart (ap suc e)) in omega arith

  -- what weighs no more for each member weighs no more for all
  pub weigh-le : (h k : X → ℕ) (xs : List X) → ((i : ℕ) (x : X) → get_elem? xs i ≡ some x → h x ≤ k x) → weigh h xs ≤ weigh k xs
  weigh-le h k [] le = omega arith
  weigh-le h k (x ∷ xs) le = let here = le 0 x refl in let rest = weigh-le h k xs (λ i y at. le (suc i) y at) in omega arith

  -- where one member has all the weight by k, and who has none by k has none by h, it has all the weight by h
  pub weigh-alone : (h k : X → ℕ) (xs : List X) (i : ℕ) (x : X) → get_elem? xs i ≡ some x → weigh k xs ≤ k x
      → ((j : ℕ) (y : X) → get_elem? xs j ≡ some y → k y ≡ 0 → h y ≡ 0) → weigh h xs ≡ h x
  weigh-alone h k [] i x at all none = absurd (some-ne-none x (sym at))
  weigh-alone h k (z ∷ xs) zero x at all none =
      let same : h z ≡ h x = ap h (some-injective z x at) in
      let alike : k z ≡ k x = ap k (some-injective z x at) in
      let rest : weigh h xs ≡ 0 = nothing h k xs (omega (arith, alike, all)) (λ j y there. none (suc j) y there) in
      omega arith
    where
      nothing : (h k : X → ℕ) (xs : List X) → weigh k xs ≡ 0 → ((j : ℕ) (y : X) → get_elem? xs j ≡ some y → k y ≡ 0 → h y ≡ 0) → weigh h xs ≡ 0
      nothing h k [] e none = refl
      nothing h k (y ∷ xs) e none =
          let here = none 0 y refl (omega (arith, e)) in let rest = nothing h k xs (omega (arith, e)) (λ j z there. none (suc j) z there) in omega arith
  weigh-alone h k (z ∷ xs) (suc i) x at all none =
      let one = weigh-one k xs i x at in
      let here = none 0 z refl (omega (arith, one, all)) in
      let rest = weigh-alone h k xs i x at (omega (arith, all)) (λ j y there. none (suc j) y there) in
      omega arith

-- ---- numbers one after the other

pub span-snoc : (h : ℕ → ℕ) (first count : ℕ) → span h first (suc count) ≡ span h first count + h (first + count)
span-snoc h first zero = omega (arith, ap h (plus_zero first))
  where
    plus_zero : (n : ℕ) → n + 0 ≡ n
    plus_zero n = omega arith
span-snoc h first (suc count) =
    let rest = span-snoc h (suc first) count in let same : h (suc first + count) ≡ h (first + suc count) = ap h (omega arith) in omega arith

pub span-ones : (first count : ℕ) → span (λ _. 1) first count ≡ count
span-ones first zero = refl
span-ones first (suc count) = let rest = span-ones (suc first) count in omega arith
