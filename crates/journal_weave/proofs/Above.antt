-- What of a list whose stamps rise is above a stamp stands at its end.
use Rattle.std.proofs.Common.{◌≡◌, refl, ◌∙◌, ap, ℕ, zero, suc, ◌<◌, ◌≤◌, true, false, cond, nat_lt, nat_le, List, [], ◌∷◌, length, drop, filter, get_or, arith}
use Rattle.std.specs.List.Sorted.{IsPartitionPoint, IsPartitionedBy}
use Rattle.std.proofs.lemmas.Bool.{leb-true, le-leb, lt-ltb, le-ltb, leb-false}
use Rattle.actor_desk.specs.declared.ask.Note.{Note}
use Rattle.world_laws.specs.Fine.{NotesRise}

module _ {X : Type 0} (stamp : X → ℕ) where
  abbrev pub Rising : ℕ → List X → Type 0
  Rising before [] = Unit {0}
  Rising before (x ∷ xs) = (before < stamp x) × Rising (stamp x) xs

  later : (before : ℕ) (xs : List X) (k : ℕ) (d : X) → Rising before xs → k < length xs → before < stamp (get_or xs k d)
  later before [] k d rise within = absurd (omega (arith, within))
  later before (x ∷ xs) zero d rise within = rise.0
  later before (x ∷ xs) (suc k) d rise within =
      let rest = later (stamp x) xs k d rise.1 (omega (arith, within)) in omega (arith, rise.0, rest)

  pub parted : (after before : ℕ) (xs : List X) → Rising before xs → IsPartitionedBy (λ x. nat_le (stamp x) after) xs
  parted after before xs rise = λ i j d le within is. by before xs i j d rise le within is
    where
      by : (before : ℕ) (xs : List X) (i j : ℕ) (d : X) → Rising before xs → i ≤ j → j < length xs → nat_le (stamp (get_or xs j d)) after ≡ true
          → nat_le (stamp (get_or xs i d)) after ≡ true
      by before [] i j d rise le within is = absurd (omega (arith, within))
      by before (x ∷ xs) zero zero d rise le within is = is
      by before (x ∷ xs) zero (suc j) d rise le within is =
          let past = later (stamp x) xs j d rise.1 (omega (arith, within)) in
          let most = leb-true (stamp (get_or xs j d)) after is in
          le-leb (stamp x) after (omega (arith, past, most))
      by before (x ∷ xs) (suc i) zero d rise le within is = absurd (omega (arith, le))
      by before (x ∷ xs) (suc i) (suc j) d rise le within is = by (stamp x) xs i j d rise.1 (omega (arith, le)) (omega (arith, within)) is

  pub above_is : (after : ℕ) (xs : List X) (i : ℕ) → i ≤ length xs
      → IsPartitionPoint (λ x. nat_le (stamp x) after ≡ true) (λ x. nat_le (stamp x) after ≡ false) xs i
      → filter (λ x. nat_lt after (stamp x)) xs ≡ drop i xs
  above_is after [] zero le h = refl
  above_is after [] (suc i) le h = refl
  above_is after (x ∷ xs) zero le h =
      let past = leb-false (stamp x) after (h.1 0 x (omega arith) (omega arith)) in
      ap (λ b. cond b (x ∷ filter (λ x. nat_lt after (stamp x)) xs) (filter (λ x. nat_lt after (stamp x)) xs)) (lt-ltb after (stamp x) past)
      ∙ ap (λ ys. x ∷ ys) (above_is after xs zero (omega arith) (λ k d low high. absurd (omega (arith, high)), λ k d low high. h.1 (suc k) d (omega arith) (omega (arith, high))))
  above_is after (x ∷ xs) (suc i) le h =
      let most = leb-true (stamp x) after (h.0 0 x (omega arith) (omega arith)) in
      ap (λ b. cond b (x ∷ filter (λ x. nat_lt after (stamp x)) xs) (filter (λ x. nat_lt after (stamp x)) xs)) (le-ltb after (stamp x) most)
      ∙ above_is after xs i (omega (arith, le))
      (λ k d low high. h.0 (suc k) d (omega arith) (omega (arith, high)), λ k d low high. h.1 (suc k) d (omega (arith, low)) (omega (arith, high)))

pub notes_rising : (before : ℕ) (notes : List Note) → NotesRise before notes → Rising (λ n. n.stamp) before notes
notes_rising before [] rise = tt
notes_rising before (n ∷ notes) rise = (rise.0, notes_rising n.stamp notes rise.1)
