-- A copy stands where the first one that comes later stood.
use Rattle.std.proofs.Common.{◌≡◌, ◌∙◌, refl, sym, ap, ℕ, zero, suc, ◌-◌, ◌<◌, ◌≤◌, Bool, true, false, not, cond, List, [], ◌∷◌, ◌++◌, length, get_or, insert, arith}
use Rattle.std.specs.List.Sorted.{IsPartitionPoint, IsPartitionedBy}
use Rattle.link_model.specs.declared.flight.Flight.{Flight}
use Rattle.link_model.specs.Order.{IsFirst, AreInOrder}
use Rattle.link_model.specs.Steps.{comes_before, with_flight}
use Rattle.link_model.proofs.Order.{before_behind}

pub not_true : (b : Bool) → not b ≡ true → b ≡ false
not_true = elim [ true ↦ λ e. sym e | false ↦ λ e. refl ]

not_false : (b : Bool) → not b ≡ false → b ≡ true
not_false = elim [ true ↦ λ e. refl | false ↦ λ e. sym e ]

none_at : {C : Type 0} (g : Flight C) (flights : List (Flight C)) (j : ℕ) (d : Flight C) → IsFirst g flights → j < length flights → comes_before (get_or flights j d) g ≡ false
none_at g [] j d first within = absurd (omega (arith, within))
none_at g (h ∷ flights) zero d first within = first.0
none_at g (h ∷ flights) (suc j) d first within = none_at g flights j d first.1 (omega (arith, within))

-- those that a copy doesn't come before stand first
pub parted : {C : Type 0} (f : Flight C) (flights : List (Flight C)) → AreInOrder flights → IsPartitionedBy (λ g. not (comes_before f g)) flights
parted {C = C} f flights order = λ i j d le within is. by flights i j d order le within is
  where
    back : (g h : Flight C) → comes_before h g ≡ false → not (comes_before f h) ≡ true → (b : Bool) → comes_before f g ≡ b → not b ≡ true
    back g h behind is false first = refl
    back g h behind is true first = let no : true ≡ false = sym (before_behind f g h first behind) ∙ not_true _ is in sym no

    by : (flights : List (Flight C)) (i j : ℕ) (d : Flight C) → AreInOrder flights → i ≤ j → j < length flights
        → not (comes_before f (get_or flights j d)) ≡ true → not (comes_before f (get_or flights i d)) ≡ true
    by [] i j d order le within is = absurd (omega (arith, within))
    by (g ∷ flights) zero zero d order le within is = is
    by (g ∷ flights) zero (suc j) d order le within is =
        back g (get_or flights j d) (none_at g flights j d order.0 (omega (arith, within))) is (comes_before f g) refl
    by (g ∷ flights) (suc i) zero d order le within is = absurd (omega (arith, le))
    by (g ∷ flights) (suc i) (suc j) d order le within is = by flights i j d order.1 (omega (arith, le)) (omega (arith, within)) is

behind_all : {C : Type 0} (f : Flight C) (flights : List (Flight C)) (d : Flight C) → ((k : ℕ) → k < length flights → comes_before f (get_or flights k d) ≡ false)
    → with_flight f flights ≡ flights ++ f ∷ []
behind_all f [] d before = refl
behind_all f (g ∷ flights) d before =
    ap (λ (b : Bool). cond b (f ∷ g ∷ flights) (g ∷ with_flight f flights)) (before 0 (omega arith))
    ∙ ap (λ rest. g ∷ rest) (behind_all f flights d (λ k low. before (suc k) (omega (arith, low))))

-- behind the last one it is behind all
pub behind_last : {C : Type 0} (f : Flight C) (flights : List (Flight C)) (n : ℕ) (d : Flight C) → AreInOrder flights → n ≡ length flights - 1
    → comes_before f (get_or flights n d) ≡ false → with_flight f flights ≡ flights ++ f ∷ []
behind_last f [] n d order last behind = refl
behind_last f (g ∷ flights) n d order last behind =
    behind_all f (g ∷ flights) d (λ k low. not_true _ (parted f (g ∷ flights) order k n d (omega (arith, low, last)) (omega (arith, last)) (ap not behind)))

-- at the point up to which it comes before none
pub put_at_point : {C : Type 0} (f : Flight C) (flights : List (Flight C)) (i : ℕ) → i ≤ length flights
    → IsPartitionPoint (λ g. not (comes_before f g) ≡ true) (λ g. not (comes_before f g) ≡ false) flights i → with_flight f flights ≡ insert flights i f
put_at_point f [] zero le h = refl
put_at_point f [] (suc i) le h = absurd (omega (arith, le))
put_at_point f (g ∷ flights) zero le h =
    ap (λ (b : Bool). cond b (f ∷ g ∷ flights) (g ∷ with_flight f flights)) (not_false _ (h.1 0 g (omega arith) (omega arith)))
put_at_point f (g ∷ flights) (suc i) le h =
    ap (λ (b : Bool). cond b (f ∷ g ∷ flights) (g ∷ with_flight f flights)) (not_true _ (h.0 0 g (omega arith) (omega arith)))
    ∙ ap (λ rest. g ∷ rest) (put_at_point f flights i (omega (arith, le))
    (λ k d low high. h.0 (suc k) d (omega arith) (omega (arith, high)), λ k d low high. h.1 (suc k) d (omega (arith, low)) (omega (arith, high))))
