-- Passes that are given to all riders and taken back, one after the other.
use Rattle.ruled_desk.proofs.Words.{◌≡◌, refl, ◌∙◌, ap, subst, ℕ, zero, suc, ◌<◌, ◌≤◌, ◌⊎◌, inl, inr, Bool, true, false, List, [], ◌∷◌, ◌++◌, length, map, take}
use Rattle.ruled_desk.proofs.Words.{drop, Option, Some, None, arith, ◌+◌, eqb, ◌≢◌, get_or, replicate, slice_set, nat_tests, Rider, AreNumbered, all_joined}
use Rattle.ruled_desk.proofs.Words.{known_with, SixLocked, SixKnown, AreOf, is_out, nobody_out, Passed, nothing_known}

-- ---- who is out

-- the others are out as they were
pub out_other : (out : List Bool) (at : ℕ) (value : Bool) (actor : ℕ) → at ≢ actor → is_out (slice_set out at value) actor ≡ is_out out actor
out_other [] at value actor apart = refl
out_other (one ∷ out) zero value zero apart = absurd (apart refl)
out_other (one ∷ out) zero value (suc actor) apart = refl
out_other (one ∷ out) (suc at) value zero apart = refl
out_other (one ∷ out) (suc at) value (suc actor) apart = out_other out at value actor (λ e. apart (ap suc e))

pub out_back : (out : List Bool) (actor : ℕ) → is_out (slice_set out actor false) actor ≡ false
out_back [] actor = refl
out_back (one ∷ out) zero = refl
out_back (one ∷ out) (suc actor) = out_back out actor

-- the next one's pass goes out
pub others_more : (out new : List Bool) (i at : ℕ) → at ≡ i → new ≡ slice_set out at true → ((actor : ℕ) → i ≤ actor → is_out out actor ≡ false)
    → (actor : ℕ) → i + 1 ≤ actor → is_out new actor ≡ false
others_more out new i at is set home actor later =
    ap (λ o. is_out o actor) set ∙ out_other out at true actor (λ e. absurd (omega (arith, e, is, later))) ∙ home actor (omega (arith, later))

-- the next one's pass comes back
pub home_more : (out new : List Bool) (i many at : ℕ) → at ≡ i → new ≡ slice_set out at false
    → ((actor : ℕ) → (actor < i) ⊎ (many ≤ actor) → is_out out actor ≡ false) → (actor : ℕ) → (actor < i + 1) ⊎ (many ≤ actor) → is_out new actor ≡ false
home_more out new i many at is set home actor which = ap (λ o. is_out o actor) set ∙ by (eqb at actor) refl which
  where
    by : (b : Bool) → eqb at actor ≡ b → (actor < i + 1) ⊎ (many ≤ actor) → is_out (slice_set out at false) actor ≡ false
    by true same which =
        let e : at ≡ actor = grind (arith, nat_tests) in subst (λ a. is_out (slice_set out at false) a ≡ false) e (out_back out at)
    by false other (inl before) =
        let apart : at ≢ actor = grind (arith, nat_tests) in
        out_other out at false actor apart ∙ home actor (inl (grind (arith, nat_tests)))
    by false other (inr behind) =
        let apart : at ≢ actor = grind (arith, nat_tests) in out_other out at false actor apart ∙ home actor (inr behind)

-- ---- which rider is next

module _ {X : Type 0} where
  -- the next one is as it was
  pub same_ahead : (f : X → X) (xs : List X) (i : ℕ) (d : X) → i < length xs → get_or (map f (take i xs) ++ drop i xs) i d ≡ get_or xs i d
  same_ahead f [] i d within = absurd (omega (arith, within))
  same_ahead f (x ∷ xs) zero d within = refl
  same_ahead f (x ∷ xs) (suc i) d within = same_ahead f xs i d (omega (arith, within))

module _ {A : Type 0} where
  pub numbered_at : (first : ℕ) (riders : List (Rider A)) (i : ℕ) (d : Rider A) → AreNumbered first riders → i < length riders
      → (get_or riders i d).crew.pass.actor ≡ first + i
  numbered_at first [] i d numbered within = absurd (omega (arith, within))
  numbered_at first (rider ∷ riders) zero d numbered within = omega (arith, numbered.0)
  numbered_at first (rider ∷ riders) (suc i) d numbered within =
      let later = numbered_at (suc first) riders i d numbered.1 (omega (arith, within)) in omega (arith, later)

  -- ---- what is known

  joined_next : (books : SixKnown) (riders : List (Rider A)) (i : ℕ) (d : Rider A) → i < length riders
      → all_joined books (take (suc i) riders) ≡ known_with (all_joined books (take i riders)) (get_or riders i d).pass
  joined_next books [] i d within = absurd (omega (arith, within))
  joined_next books (rider ∷ riders) zero d within = refl
  joined_next books (rider ∷ riders) (suc i) d within = joined_next (known_with books rider.pass) riders i d (omega (arith, within))

  pub joined_more : (books : SixKnown) (riders : List (Rider A)) (i : ℕ) (d : Rider A) → i < length riders
      → all_joined books (take (i + 1) riders) ≡ known_with (all_joined books (take i riders)) (get_or riders i d).pass
  joined_more books riders i d within =
      let e : i + 1 ≡ suc i = omega arith in ap (λ n. all_joined books (take n riders)) e ∙ joined_next books riders i d within

-- what is known with a pass is of the tables of the desk still
pub of_with : (desk : SixLocked) (books : SixKnown) (pass : Option Passed) → AreOf desk books → AreOf desk (known_with books pass)
of_with desk books None of = of
of_with desk books (Some pass) of = record {
  send_a = of.send_a;
  send_b = of.send_b;
  reassembly_a = of.reassembly_a;
  reassembly_b = of.reassembly_b;
  control_a = of.control_a;
  control_b = of.control_b;
}

zero_plus : (i : ℕ) → 0 + i ≡ i
zero_plus i = omega arith

module _ {A : Type 0} where
  -- the next rider is as it was, and its actor has its place as its number
  pub next_same : (f : Rider A → Rider A) (old riders : List (Rider A)) (i : ℕ) (d : Rider A) → riders ≡ map f (take i old) ++ drop i old → i < length old
      → get_or riders i d ≡ get_or old i d
  next_same f old riders i d is within = ap (λ l. get_or l i d) is ∙ same_ahead f old i d within

  pub next_actor : (f : Rider A → Rider A) (old riders : List (Rider A)) (i : ℕ) (d : Rider A) → AreNumbered 0 old
      → riders ≡ map f (take i old) ++ drop i old → i < length old → (get_or riders i d).crew.pass.actor ≡ i
  next_actor f old riders i d numbered is within =
      ap (λ (r : Rider A). r.crew.pass.actor) (next_same f old riders i d is within) ∙ (numbered_at 0 old i d numbered within ∙ zero_plus i)

-- ---- before the round

home_first : (n actor : ℕ) → is_out (replicate n false) actor ≡ false
home_first zero actor = refl
home_first (suc n) zero = refl
home_first (suc n) (suc actor) = home_first n actor

pub nobody_is_out : (actor : ℕ) → is_out nobody_out actor ≡ false
nobody_is_out actor = home_first 256 actor

pub of_nothing : (desk : SixLocked) → AreOf desk (nothing_known desk)
of_nothing desk = record { send_a = refl; send_b = refl; reassembly_a = refl; reassembly_b = refl; control_a = refl; control_b = refl }
