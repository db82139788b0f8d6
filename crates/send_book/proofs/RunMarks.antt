-- What the runs tell of the marks of single bytes.
use Rattle.std.proofs.Common.{◌≡◌, refl, sym, ◌∙◌, ap, ℕ, zero, suc, ◌+◌, ◌-◌, ◌*◌, ◌^◌, ◌<◌, ◌≤◌, min, max, Bool, true, false, not, cond, ◌&&◌, ◌||◌, nat_le, if◌then◌else◌, List, [], ◌∷◌, ◌++◌, take, drop, map, replicate, count_by, Some, arith}
use Rattle.std.proofs.lemmas.Bool.{leb-true, leb-false}
use Rattle.std.proofs.lemmas.List.{append-nil}
use Rattle.std.proofs.lemmas.List.Folds.{sum_by-replicate}
use Rattle.std.proofs.lemmas.List.Sums.{sum_by-append}
use Rattle.std.proofs.Math.Seq.{drop-nil}
use Rattle.std.specs.List.{list_all, prefix_len, position_from}
use Rattle.range_marks.specs.declared.run.Run.{Run}
use Rattle.range_marks.specs.Runs.{marks_of, LieSideBySide}
use Rattle.range_marks.proofs.Cutting.{drop_run, drop_in_run, take_run, take_in_run}
use Rattle.range_marks.proofs.SideBySide.{side_by_side-le}
use Rattle.send_book.specs.declared.mark.ByteMark.{ByteMark}
use Rattle.send_book.specs.declared.runs.Move.{Move}
use Rattle.send_book.specs.Marks.{is_free_for, is_held_by, has_tried, is_untouched}
use Rattle.send_book.specs.Steps.{tried_first}
use Rattle.send_book.specs.Kept.{first_in, free_up_to, held_in, gathered_in, moved_in, moved}

-- tests of elements that are all the same
module _ {X : Type 0} (p : X → Bool) where
  pub position_from-no : (n : ℕ) (x : X) (ys : List X) (i j : ℕ) → p x ≡ false → j ≡ i + n
      → position_from p i (replicate n x ++ ys) ≡ position_from p j ys
  position_from-no zero x ys i j fails e = ap (λ k. position_from p k ys) (omega (arith, e))
  position_from-no (suc n) x ys i j fails e = rw fails (position_from-no n x ys (i + 1) j fails (omega (arith, e)))

  pub position_from-yes : (n : ℕ) (x : X) (ys : List X) (i : ℕ) → p x ≡ true → 0 < n
      → position_from p i (replicate n x ++ ys) ≡ Some i
  position_from-yes zero x ys i passes some = absurd (omega (arith, some))
  position_from-yes (suc n) x ys i passes some = rw passes refl

  pub prefix_len-yes : (n : ℕ) (x : X) (ys : List X) → p x ≡ true → prefix_len p (replicate n x ++ ys) ≡ n + prefix_len p ys
  prefix_len-yes zero x ys passes = omega arith
  prefix_len-yes (suc n) x ys passes = rw passes (omega (arith, prefix_len-yes n x ys passes))

  pub prefix_len-no : (n : ℕ) (x : X) (ys : List X) → p x ≡ false → 0 < n → prefix_len p (replicate n x ++ ys) ≡ 0
  prefix_len-no zero x ys fails some = absurd (omega (arith, some))
  prefix_len-no (suc n) x ys fails some = rw fails refl

  pub list_all-yes : (n : ℕ) (x : X) (ys : List X) → p x ≡ true → list_all p (replicate n x ++ ys) ≡ list_all p ys
  list_all-yes zero x ys passes = refl
  list_all-yes (suc n) x ys passes = rw passes (list_all-yes n x ys passes)

  pub list_all-no : (n : ℕ) (x : X) (ys : List X) → p x ≡ false → 0 < n → list_all p (replicate n x ++ ys) ≡ false
  list_all-no zero x ys fails some = absurd (omega (arith, some))
  list_all-no (suc n) x ys fails some = rw fails refl

  pub count_by-same : (n : ℕ) (x : X) (ys : List X) → count_by p (replicate n x ++ ys) ≡ n * cond (p x) 1 0 + count_by p ys
  count_by-same n x ys =
      sum_by-append (λ y. cond (p y) 1 0) (replicate n x) ys ∙ ap (λ k. k + count_by p ys) (sum_by-replicate (λ y. cond (p y) 1 0) n x)

  pub count_by-cons : (x : X) (xs : List X) → count_by p (x ∷ xs) ≡ cond (p x) 1 0 + count_by p xs
  count_by-cons x xs = count_by-same 1 x xs ∙ ap (λ k. k + count_by p xs) (grind arith)

  pub count_by-none : (xs : List X) → list_all (λ x. not (p x)) xs ≡ true → count_by p xs ≡ 0
  count_by-none [] none = refl
  count_by-none (x ∷ xs) none = (elim (p x) as (λ b. p x ≡ b → (not b && list_all (λ x. not (p x)) xs) ≡ true → (list_all (λ x. not (p x)) xs ≡ true → count_by p xs ≡ 0) → count_by p (x ∷ xs) ≡ 0)
      [ true ↦ λ is none rest. cc | false ↦ λ is none rest. count_by-cons x xs ∙ rw is (omega (arith, rest none)) ]) refl none (count_by-none xs)

pub map-same : {X Y : Type 0} (f : X → Y) (n : ℕ) (x : X) (xs : List X) → map f (replicate n x ++ xs) ≡ replicate n (f x) ++ map f xs
map-same f zero x xs = refl
map-same f (suc n) x xs = ap (λ ys. f x ∷ ys) (map-same f n x xs)

module _ (path : ℕ) where
  pub first_in-position : (runs : List (Run ByteMark)) (from to : ℕ) → LieSideBySide from to runs
      → first_in path runs ≡ position_from (is_free_for path) from (marks_of runs)
  first_in-position [] from to lie = refl
  first_in-position (run ∷ runs) from to lie = at (is_free_for path run.mark) refl (first_in-position runs run.to to lie.2)
    where
      at : (b : Bool) → is_free_for path run.mark ≡ b → first_in path runs ≡ position_from (is_free_for path) run.to (marks_of runs)
          → (if b then Some run.from else first_in path runs) ≡ position_from (is_free_for path) from (marks_of (run ∷ runs))
      at true is rest = ap Some lie.0 ∙ sym (position_from-yes (is_free_for path) (run.to - run.from) run.mark (marks_of runs) from is (omega (arith, lie.0, lie.1)))
      at false is rest = rest ∙ sym (position_from-no (is_free_for path) (run.to - run.from) run.mark (marks_of runs) from run.to is (omega (arith, lie.0, lie.1)))

  pub free_up_to-prefix : (runs : List (Run ByteMark)) (from to at : ℕ) → LieSideBySide from to runs → from ≤ at
      → free_up_to path at runs ≡ at + prefix_len (is_free_for path) (drop (at - from) (marks_of runs))
  free_up_to-prefix [] from to at lie after = rw (drop-nil (at - from)) (omega arith)
  free_up_to-prefix (run ∷ runs) from to at lie after =
      by (nat_le run.to at) refl (is_free_for path run.mark) refl (λ k. free_up_to-prefix runs run.to to k lie.2)
    where
      n : ℕ
      n = run.to - run.from

      by : (over : Bool) → nat_le run.to at ≡ over → (b : Bool) → is_free_for path run.mark ≡ b
          → ((k : ℕ) → run.to ≤ k → free_up_to path k runs ≡ k + prefix_len (is_free_for path) (drop (k - run.to) (marks_of runs)))
          → (if over then free_up_to path at runs else (if b then free_up_to path run.to runs else at))
          ≡ at + prefix_len (is_free_for path) (drop (at - from) (marks_of (run ∷ runs)))
      by true is b free rest =
          let past : run.to ≤ at = leb-true _ _ is in
          rw (drop_run (run.to - run.from) (at - from) (at - run.to) run.mark (marks_of runs) (omega (arith, past, lie.0)) (omega (arith, past, lie.0, lie.1)))
          (rest at past)
      by false is true free rest =
          let before : at < run.to = leb-false _ _ is in
          let none : run.to - run.to ≡ 0 = omega arith in
          let next : free_up_to path run.to runs ≡ run.to + prefix_len (is_free_for path) (marks_of runs) =
          rest run.to (omega arith) ∙ rw none refl in
          rw (
            drop_in_run (run.to - run.from) (at - from) (run.to - at) run.mark (marks_of runs) (omega (arith, before, lie.0)) (omega (arith, before, after, lie.0, lie.1)),
            prefix_len-yes (is_free_for path) (run.to - at) run.mark (marks_of runs) free,
          )
          (omega (arith, next, before))
      by false is false free rest =
          let before : at < run.to = leb-false _ _ is in
          rw (
            drop_in_run (run.to - run.from) (at - from) (run.to - at) run.mark (marks_of runs) (omega (arith, before, lie.0)) (omega (arith, before, after, lie.0, lie.1)),
            prefix_len-no (is_free_for path) (run.to - at) run.mark (marks_of runs) free (omega (arith, before)),
          )
          (omega arith)

  pub held_in-count : (runs : List (Run ByteMark)) (from to others : ℕ) → LieSideBySide from to runs → others ≤ from → to < 2 ^ 63
      → held_in path others runs ≡ others + count_by (is_held_by path) (marks_of runs)
  held_in-count [] from to others lie few bound = omega arith
  held_in-count (run ∷ runs) from to others lie few bound =
      by (is_held_by path run.mark) refl (λ k. held_in-count runs run.to to k lie.2)
    where
      by : (b : Bool) → is_held_by path run.mark ≡ b
          → ((k : ℕ) → k ≤ run.to → to < 2 ^ 63 → held_in path k runs ≡ k + count_by (is_held_by path) (marks_of runs))
          → (if b then held_in path (min (others + (run.to - run.from)) (2 ^ 64 - 1)) runs else held_in path others runs)
          ≡ others + count_by (is_held_by path) (marks_of (run ∷ runs))
      by true is rest =
          let small : run.to ≤ to = side_by_side-le runs run.to to lie.2 in
          let all : min (others + (run.to - run.from)) (2 ^ 64 - 1) ≡ others + (run.to - run.from) = omega (arith, small, few, bound, lie.0, lie.1) in
          rw (all, count_by-same (is_held_by path) (run.to - run.from) run.mark (marks_of runs), is)
          (rest (others + (run.to - run.from)) (omega (arith, few, lie.0, lie.1)) bound ∙ omega arith)
      by false is rest =
          rw (count_by-same (is_held_by path) (run.to - run.from) run.mark (marks_of runs), is)
          (rest others (omega (arith, few, lie.0, lie.1)) bound ∙ omega arith)

  pub gathered_in-none : (runs : List (Run ByteMark)) (from to : ℕ) → LieSideBySide from to runs → gathered_in path true runs ≡ list_all is_untouched (marks_of runs)
  gathered_in-none [] from to lie = refl
  gathered_in-none (run ∷ runs) from to lie = by (is_untouched run.mark) refl (gathered_in-none runs run.to to lie.2)
    where
      by : (b : Bool) → is_untouched run.mark ≡ b → gathered_in path true runs ≡ list_all is_untouched (marks_of runs)
          → (if b then gathered_in path true runs else (if true || not (has_tried path run.mark) then false else gathered_in path true runs))
          ≡ list_all is_untouched (marks_of (run ∷ runs))
      by true is rest = rest ∙ sym (list_all-yes is_untouched (run.to - run.from) run.mark (marks_of runs) is)
      by false is rest = sym (list_all-no is_untouched (run.to - run.from) run.mark (marks_of runs) is (omega (arith, lie.0, lie.1)))

  tried_first-new : (n : ℕ) (m : ByteMark) (ms : List ByteMark) → is_untouched m ≡ true → 0 < n → tried_first path (replicate n m ++ ms) ≡ list_all is_untouched ms
  tried_first-new zero m ms new some = absurd (omega (arith, some))
  tried_first-new (suc n) m ms new some = rw new (list_all-yes is_untouched n m ms new)

  tried_first-yes : (n : ℕ) (m : ByteMark) (ms : List ByteMark) → is_untouched m ≡ false → has_tried path m ≡ true → tried_first path (replicate n m ++ ms) ≡ tried_first path ms
  tried_first-yes zero m ms old passes = refl
  tried_first-yes (suc n) m ms old passes = rw (old, passes) (tried_first-yes n m ms old passes)

  tried_first-no : (n : ℕ) (m : ByteMark) (ms : List ByteMark) → is_untouched m ≡ false → has_tried path m ≡ false → 0 < n → tried_first path (replicate n m ++ ms) ≡ false
  tried_first-no zero m ms old fails some = absurd (omega (arith, some))
  tried_first-no (suc n) m ms old fails some = rw (old, fails) refl

  pub gathered_in-first : (runs : List (Run ByteMark)) (from to : ℕ) → LieSideBySide from to runs → gathered_in path false runs ≡ tried_first path (marks_of runs)
  gathered_in-first [] from to lie = refl
  gathered_in-first (run ∷ runs) from to lie = by (is_untouched run.mark) (has_tried path run.mark) refl refl (gathered_in-first runs run.to to lie.2)
    where
      by : (b c : Bool) → is_untouched run.mark ≡ b → has_tried path run.mark ≡ c → gathered_in path false runs ≡ tried_first path (marks_of runs)
          → (if b then gathered_in path true runs else (if false || not c then false else gathered_in path false runs)) ≡ tried_first path (marks_of (run ∷ runs))
      by true c new is rest = gathered_in-none runs run.to to lie.2 ∙ sym (tried_first-new (run.to - run.from) run.mark (marks_of runs) new (omega (arith, lie.0, lie.1)))
      by false true old is rest = rest ∙ sym (tried_first-yes (run.to - run.from) run.mark (marks_of runs) old is)
      by false false old is rest = sym (tried_first-no (run.to - run.from) run.mark (marks_of runs) old is (omega (arith, lie.0, lie.1)))

take-nil : {X : Type 0} (n : ℕ) → take {A = X} n [] ≡ []
take-nil zero = refl
take-nil (suc n) = refl

module _ (move : Move) where
  moved_in-past : (runs : List (Run ByteMark)) (at to : ℕ) → to ≤ at → moved_in move at to runs ≡ []
  moved_in-past [] at to past = refl
  moved_in-past (run ∷ runs) at to past =
      let none : min run.to to - at ≡ 0 = omega (arith, past) in
      let same : max at (min run.to to) ≡ at = omega (arith, past) in
      rw (none, same) (moved_in-past runs at to past)

  -- the marks from one place on and below another, moved
  pub moved_in-part : (runs : List (Run ByteMark)) (from stop at to : ℕ) → LieSideBySide from stop runs → from ≤ at → at ≤ to
      → moved_in move at to runs ≡ map (moved move) (take (to - at) (drop (at - from) (marks_of runs)))
  moved_in-part [] from stop at to lie after order = rw (drop-nil (at - from), take-nil (to - at)) refl
  moved_in-part (run ∷ runs) from stop at to lie after order =
      by (nat_le run.to at) refl (nat_le run.to to) refl (λ k. moved_in-part runs run.to stop k to lie.2)
    where
      by : (over : Bool) → nat_le run.to at ≡ over → (whole : Bool) → nat_le run.to to ≡ whole
          → ((k : ℕ) → run.to ≤ k → k ≤ to → moved_in move k to runs ≡ map (moved move) (take (to - k) (drop (k - run.to) (marks_of runs))))
          → moved_in move at to (run ∷ runs) ≡ map (moved move) (take (to - at) (drop (at - from) (marks_of (run ∷ runs))))
      by true is whole all rest =
          let past : run.to ≤ at = leb-true _ _ is in
          let none : min run.to to - at ≡ 0 = omega (arith, past) in
          let same : max at (min run.to to) ≡ at = omega (arith, past) in
          rw (none, same, drop_run (run.to - run.from) (at - from) (at - run.to) run.mark (marks_of runs) (omega (arith, past, lie.0)) (omega (arith, past, lie.0, lie.1)))
          (rest at past order)
      by false is true all rest =
          let before : at < run.to = leb-false _ _ is in
          let under : run.to ≤ to = leb-true _ _ all in
          let count : min run.to to - at ≡ run.to - at = omega (arith, under) in
          let next : max at (min run.to to) ≡ run.to = omega (arith, under, before) in
          let none : run.to - run.to ≡ 0 = omega arith in
          let others : moved_in move run.to to runs ≡ map (moved move) (take (to - run.to) (marks_of runs)) =
          rest run.to (omega arith) under ∙ rw none refl in
          rw (
            count,
            next,
            others,
            drop_in_run (run.to - run.from) (at - from) (run.to - at) run.mark (marks_of runs) (omega (arith, before, lie.0)) (omega (arith, before, after, lie.0, lie.1)),
            take_run (run.to - at) (to - at) (to - run.to) run.mark (marks_of runs) (omega (arith, under)) (omega (arith, under, before)),
          )
          (sym (map-same (moved move) (run.to - at) run.mark (take (to - run.to) (marks_of runs))))
      by false is false all rest =
          let before : at < run.to = leb-false _ _ is in
          let over : to < run.to = leb-false _ _ all in
          let count : min run.to to - at ≡ to - at = omega (arith, over) in
          let next : max at (min run.to to) ≡ to = omega (arith, over, order) in
          rw (
            count,
            next,
            moved_in-past runs to to (omega arith),
            drop_in_run (run.to - run.from) (at - from) (run.to - at) run.mark (marks_of runs) (omega (arith, before, lie.0)) (omega (arith, before, after, lie.0, lie.1)),
            take_in_run (run.to - at) (to - at) run.mark (marks_of runs) (omega (arith, over)),
          )
          (rw (← append-nil (replicate (to - at) run.mark)) (sym (map-same (moved move) (to - at) run.mark [])))
