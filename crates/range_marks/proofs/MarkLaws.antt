-- What the changes of marks promise of runs of them.
use Rattle.std.proofs.Common.{◌≡◌, ℕ, zero, suc, ◌+◌, ◌-◌, ◌<◌, ◌≤◌, List, [], ◌∷◌, ◌++◌, length, take, drop, replicate, refl, sym, ap, ◌∙◌, arith}
use Rattle.range_marks.specs.Marks.{Marks, marks_len, after_mark, after_drop_front}
use Rattle.range_marks.specs.Laws.{DisjointMarksCommute, LastMarkStands, ForgottenPlacesStayForgotten, Change, Extend, Put, DropFront, CutBack, after_change, after_changes}
use Rattle.range_marks.proofs.SideBySide.{lt_true}

module _ {M : Type 0} where
  -- marks put by recursion on the list: the first `lo` are passed over, then `n` are replaced
  abbrev put : ℕ → ℕ → M → List M → List M
  put lo n mark [] = []
  put zero zero mark (x ∷ xs) = x ∷ xs
  put zero (suc n) mark (x ∷ xs) = mark ∷ put zero n mark xs
  put (suc lo) n mark (x ∷ xs) = x ∷ put lo n mark xs

  -- a list with marks put into it is what is before, the marks, and what is after
  put-is : (lo hi n : ℕ) (mark : M) (xs : List M) → hi ≡ lo + n → hi ≤ length xs → take lo xs ++ (replicate n mark ++ drop hi xs) ≡ put lo n mark xs
  put-is zero zero zero mark [] e le = refl
  put-is zero zero zero mark (x ∷ xs) e le = refl
  put-is zero (suc hi) zero mark xs e le = absurd (omega arith)
  put-is zero zero (suc n) mark xs e le = absurd (omega arith)
  put-is zero (suc hi) (suc n) mark [] e le = absurd (omega arith)
  put-is zero (suc hi) (suc n) mark (x ∷ xs) e le = ap (λ (t : List M). mark ∷ t) (put-is zero hi n mark xs (omega arith) (omega arith))
  put-is (suc lo) zero n mark xs e le = absurd (omega arith)
  put-is (suc lo) (suc hi) n mark [] e le = absurd (omega arith)
  put-is (suc lo) (suc hi) n mark (x ∷ xs) e le = ap (λ (t : List M). x ∷ t) (put-is lo hi n mark xs (omega arith) (omega arith))

  length-put : (lo n : ℕ) (mark : M) (xs : List M) → length (put lo n mark xs) ≡ length xs
  length-put lo n mark [] = refl
  length-put zero zero mark (x ∷ xs) = refl
  length-put zero (suc n) mark (x ∷ xs) = ap suc (length-put zero n mark xs)
  length-put (suc lo) n mark (x ∷ xs) = ap suc (length-put lo n mark xs)

  put-put_after : (lo n lo' n' : ℕ) (mark mark' : M) (xs : List M) → lo + n ≤ lo' → put lo n mark (put lo' n' mark' xs) ≡ put lo' n' mark' (put lo n mark xs)
  put-put_after lo n lo' n' mark mark' [] le = refl
  put-put_after zero zero zero zero mark mark' (x ∷ xs) le = refl
  put-put_after zero zero zero (suc n') mark mark' (x ∷ xs) le = refl
  put-put_after zero zero (suc lo') n' mark mark' (x ∷ xs) le = refl
  put-put_after zero (suc n) zero n' mark mark' (x ∷ xs) le = absurd (omega arith)
  put-put_after zero (suc n) (suc lo') n' mark mark' (x ∷ xs) le = ap (λ (t : List M). mark ∷ t) (put-put_after zero n lo' n' mark mark' xs (omega arith))
  put-put_after (suc lo) n zero n' mark mark' (x ∷ xs) le = absurd (omega arith)
  put-put_after (suc lo) n (suc lo') n' mark mark' (x ∷ xs) le = ap (λ (t : List M). x ∷ t) (put-put_after lo n lo' n' mark mark' xs (omega arith))

  put-put_again : (lo n : ℕ) (mark mark' : M) (xs : List M) → put lo n mark' (put lo n mark xs) ≡ put lo n mark' xs
  put-put_again lo n mark mark' [] = refl
  put-put_again zero zero mark mark' (x ∷ xs) = refl
  put-put_again zero (suc n) mark mark' (x ∷ xs) = ap (λ (t : List M). mark' ∷ t) (put-put_again zero n mark mark' xs)
  put-put_again (suc lo) n mark mark' (x ∷ xs) = ap (λ (t : List M). x ∷ t) (put-put_again lo n mark mark' xs)

  after_mark-put : (v : Marks M) (from to : ℕ) (mark : M) → from ≤ to → to ≤ marks_len v
      → after_mark from to mark v ≡ record v { marks = put (from - v.forgotten) (to - v.forgotten - (from - v.forgotten)) mark v.marks }
  after_mark-put v from to mark le within =
      ap (λ (ms : List M). record v { marks = ms })
      (put-is (from - v.forgotten) (to - v.forgotten) (to - v.forgotten - (from - v.forgotten)) mark v.marks (omega arith) (omega arith))

  -- one mark, and then another
  twice : (v : Marks M) (from to from' to' : ℕ) (mark mark' : M) → from ≤ to → to ≤ marks_len v → from' ≤ to' → to' ≤ marks_len v
      → after_mark from' to' mark' (after_mark from to mark v)
      ≡ record v { marks = put (from' - v.forgotten) (to' - v.forgotten - (from' - v.forgotten)) mark' (put (from - v.forgotten) (to - v.forgotten - (from - v.forgotten)) mark v.marks) }
  twice v from to from' to' mark mark' le within le' within' =
      ap (λ (w : Marks M). after_mark from' to' mark' w) (after_mark-put v from to mark le within)
      ∙ after_mark-put (record v { marks = put (from - v.forgotten) (to - v.forgotten - (from - v.forgotten)) mark v.marks }) from' to' mark' le'
      (omega (arith, length-put (from - v.forgotten) (to - v.forgotten - (from - v.forgotten)) mark v.marks))

  forgotten-change : (change : Change M) (v : Marks M) → v.forgotten ≤ (after_change change v).forgotten
  forgotten-change (Extend count mark) v = omega arith
  forgotten-change _ v = omega arith

  forgotten-changes : (changes : List (Change M)) (v : Marks M) → v.forgotten ≤ (after_changes changes v).forgotten
  forgotten-changes [] v = omega arith
  forgotten-changes (change ∷ changes) v = omega (arith, forgotten-change change v, forgotten-changes changes (after_change change v))

pub disjoint_marks_commute_lem : (M : Type 0) → DisjointMarksCommute M
disjoint_marks_commute_lem M v from to from' to' mark mark' le apart le' within =
    twice v from' to' from to mark' mark le' within le (omega arith)
    ∙ ap (λ (ms : List M). record v { marks = ms })
    (put-put_after (from - v.forgotten) (to - v.forgotten - (from - v.forgotten)) (from' - v.forgotten) (to' - v.forgotten - (from' - v.forgotten)) mark mark' v.marks (omega arith))
    ∙ sym (twice v from to from' to' mark mark' le (omega arith) le' within)

pub last_mark_stands_lem : (M : Type 0) → LastMarkStands M
last_mark_stands_lem M v from to mark mark' le within =
    twice v from to from to mark mark' le within le within
    ∙ ap (λ (ms : List M). record v { marks = ms }) (put-put_again (from - v.forgotten) (to - v.forgotten - (from - v.forgotten)) mark mark' v.marks)
    ∙ sym (after_mark-put v from to mark' le within)

pub forgotten_places_stay_forgotten_lem : (M : Type 0) → ForgottenPlacesStayForgotten M
forgotten_places_stay_forgotten_lem M v to place changes lt =
    let gone : place < (after_changes changes (after_drop_front to v)).forgotten = omega (arith, forgotten-changes changes (after_drop_front to v)) in
    rw (lt_true place (after_changes changes (after_drop_front to v)).forgotten gone) refl
