-- A relation whose chains all end, and several numbers in order: the first one that changes falls.
use Rattle.std.proofs.Common.{ℕ, zero, suc, ◌<◌, ◌≤◌, arith}

-- every chain down from here ends
pub data Ending {S : Type 0} (R : S → S → Type 0) : S → Type 0 where
  intro : (p : S) → ((q : S) → R q p → Ending R q) → Ending R p

-- the number falls, or it doesn't rise and the rest falls
pub data Then {S : Type 0} (f : S → ℕ) (R : S → S → Type 0) (q p : S) : Type 0 where
  Falls : f q < f p → Then f R q p
  Stays : f q ≤ f p → R q p → Then f R q p

-- the number falls
abbrev pub Less : {S : Type 0} → (S → ℕ) → S → S → Type 0
Less f q p = f q < f p

module _ {S : Type 0} (f : S → ℕ) where
  less_below : (n : ℕ) (p : S) → f p < n → Ending (Less f) p
  less_below zero p below = absurd (omega (arith, below))
  less_below (suc n) p below = Ending.intro p (λ q less. less_below n q (omega (arith, below, less)))

  pub less-ends : (p : S) → Ending (Less f) p
  less-ends p = less_below (suc (f p)) p (omega arith)

module _ {S : Type 0} (f : S → ℕ) (R : S → S → Type 0) where
  next : (bound : ℕ) (p : S) → f p ≤ bound → ((q : S) → f q < bound → Ending (Then f R) q)
      → ((q : S) → R q p → f q ≤ bound → Ending (Then f R) q) → (q : S) → Then f R q p → Ending (Then f R) q
  next bound p below lower rest q (Then.Falls less) = lower q (omega (arith, below, less))
  next bound p below lower rest q (Then.Stays most r) = rest q r (omega (arith, below, most))

  within : (bound : ℕ) → ((q : S) → f q < bound → Ending (Then f R) q) → (p : S) → f p ≤ bound → Ending R p → Ending (Then f R) p
  within bound lower p below (Ending.intro _ rest) =
      Ending.intro p (next bound p below lower (λ q r most. within bound lower q most (rest q r)))

  below_bound : ((q : S) → Ending R q) → (n : ℕ) (p : S) → f p < n → Ending (Then f R) p
  below_bound all zero p below = absurd (omega (arith, below))
  below_bound all (suc n) p below = within n (below_bound all n) p (omega (arith, below)) (all p)

  pub then-ends : ((q : S) → Ending R q) → (p : S) → Ending (Then f R) p
  then-ends all p = below_bound all (suc (f p)) p (omega arith)
