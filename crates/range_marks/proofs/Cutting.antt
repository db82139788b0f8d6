-- What is left of runs at the front and at the back.
use Rattle.std.proofs.Common.{◌≡◌, ℕ, zero, suc, ◌-◌, ◌<◌, ◌≤◌, max, min, List, [], ◌∷◌, ◌++◌, length, get_or, set, take, drop, replicate, refl, sym, ap, ◌∙◌, ⊎_elim, arith, append-nil, subst}
use Rattle.std.proofs.lemmas.Bool.{cases_lt}
use Rattle.std.proofs.lemmas.List.{nil_from_length, length-replicate, take-replicate, drop-replicate, take-append-le, drop-append-le}
use Rattle.range_marks.specs.declared.run.Run.{Run}
use Rattle.range_marks.specs.Runs.{marks_of, LieSideBySide, BeginsOtherwise, NeighboursDiffer, ended_by, begun_before, runs_from, runs_below}
use Rattle.range_marks.proofs.SideBySide.{le_true, le_false, lt_true, lt_false, side_by_side-le}

no_length : (n : ℕ) → (0 < n → ⊥) → n ≡ 0
no_length n none = ⊎_elim (λ h. absurd (none h)) (λ h. omega arith) (cases_lt 0 n)

module _ {M : Type 0} where
  -- ---- a prefix is longer or shorter than the first part of a list
  take_past : (xs ys : List M) (n : ℕ) → length xs ≤ n → take n (xs ++ ys) ≡ xs ++ take (n - length xs) ys
  take_past [] ys n le = ap (λ k. take k ys) (omega arith)
  take_past (x ∷ xs) ys zero le = absurd (omega arith)
  take_past (x ∷ xs) ys (suc n) le = ap (λ t. x ∷ t) (take_past xs ys n (omega arith) ∙ ap (λ k. xs ++ take k ys) (omega arith))

  drop_past : (xs ys : List M) (n : ℕ) → length xs ≤ n → drop n (xs ++ ys) ≡ drop (n - length xs) ys
  drop_past [] ys n le = ap (λ k. drop k ys) (omega arith)
  drop_past (x ∷ xs) ys zero le = absurd (omega arith)
  drop_past (x ∷ xs) ys (suc n) le = drop_past xs ys n (omega arith) ∙ ap (λ k. drop k ys) (omega arith)

  drop_nothing : (n : ℕ) → drop n [] ≡ let none : List M = [] in none
  drop_nothing zero = refl
  drop_nothing (suc n) = refl

  take_nothing : (n : ℕ) → take n [] ≡ let none : List M = [] in none
  take_nothing zero = refl
  take_nothing (suc n) = refl

  -- a run of places with one mark, and the rest behind it, of which some are dropped or taken
  pub drop_run : (n m k : ℕ) (mark : M) (ms : List M) → n ≤ m → k ≡ m - n → drop m (replicate n mark ++ ms) ≡ drop k ms
  drop_run n m k mark ms le e = rw (drop_past (replicate n mark) ms m (omega (arith, length-replicate n mark)), length-replicate, e) refl

  pub drop_in_run : (n m k : ℕ) (mark : M) (ms : List M) → m ≤ n → k ≡ n - m → drop m (replicate n mark ++ ms) ≡ replicate k mark ++ ms
  drop_in_run n m k mark ms le e = rw (drop-append-le m (replicate n mark) ms (omega (arith, length-replicate n mark)), drop-replicate, e) refl

  pub take_run : (n m k : ℕ) (mark : M) (ms : List M) → n ≤ m → k ≡ m - n → take m (replicate n mark ++ ms) ≡ replicate n mark ++ take k ms
  take_run n m k mark ms le e = rw (take_past (replicate n mark) ms m (omega (arith, length-replicate n mark)), length-replicate, e) refl

  pub take_in_run : (n m : ℕ) (mark : M) (ms : List M) → m ≤ n → take m (replicate n mark ++ ms) ≡ replicate m mark
  take_in_run n m mark ms le = rw (take-append-le m (replicate n mark) ms (omega (arith, length-replicate n mark)), take-replicate m n mark le) refl

  -- ---- the front is dropped
  abbrev pub clipped_front : ℕ → List (Run M) → List (Run M)
  clipped_front place [] = []
  clipped_front place (run ∷ runs) = record run { from = max run.from place } ∷ runs

  pub runs_from-ended_by : (runs : List (Run M)) (place : ℕ) → runs_from place runs ≡ clipped_front place (drop (ended_by place runs) runs)
  runs_from-ended_by [] place = refl
  runs_from-ended_by (run ∷ runs) place =
      ⊎_elim (λ h. rw (le_false run.to place h) refl) (λ h. rw (le_true run.to place h) (runs_from-ended_by runs place)) (cases_lt place run.to)

  pub side_by_side-from : (runs : List (Run M)) (from to place : ℕ) → LieSideBySide from to runs → place ≤ to → LieSideBySide (max from place) to (runs_from place runs)
  side_by_side-from [] from to place e le = omega arith
  side_by_side-from (run ∷ runs) from to place side le =
      ⊎_elim
      (λ h. rw (le_false run.to place h) (omega (arith, side.0), omega (arith, side.1), side.2))
      (λ h. rw (le_true run.to place h) (let P : ℕ → Type 0 = λ k. LieSideBySide k to (runs_from place runs) in subst P (omega (arith, side.1)) (side_by_side-from runs run.to to place side.2 le)))
      (cases_lt place run.to)

  pub marks_of-from : (runs : List (Run M)) (from to place : ℕ) → LieSideBySide from to runs → marks_of (runs_from place runs) ≡ drop (place - from) (marks_of runs)
  marks_of-from [] from to place e = sym (drop_nothing (place - from))
  marks_of-from (run ∷ runs) from to place side =
      ⊎_elim
      (λ h. rw (le_false run.to place h) (sym (drop_in_run (run.to - run.from) (place - from) (run.to - max run.from place) run.mark (marks_of runs) (omega (arith, side.0)) (omega (arith, side.0, side.1)))))
      (λ h. rw (le_true run.to place h) (marks_of-from runs run.to to place side.2 ∙ sym (drop_run (run.to - run.from) (place - from) (place - run.to) run.mark (marks_of runs) (omega (arith, side.0)) (omega (arith, side.0, side.1)))))
      (cases_lt place run.to)

  pub neighbours_differ-from : (runs : List (Run M)) (place : ℕ) → NeighboursDiffer runs → NeighboursDiffer (runs_from place runs)
  neighbours_differ-from [] place differ = tt
  neighbours_differ-from (run ∷ runs) place differ =
      ⊎_elim (λ h. rw (le_false run.to place h) differ) (λ h. rw (le_true run.to place h) (neighbours_differ-from runs place differ.1)) (cases_lt place run.to)

  -- ---- the back is cut
  -- nothing is left of runs that begin at or past the place
  runs_below_nothing : (runs : List (Run M)) (from to place : ℕ) → LieSideBySide from to runs → place ≤ from → runs_below place runs ≡ []
  runs_below_nothing [] from to place e le = refl
  runs_below_nothing (run ∷ runs) from to place side le = rw (lt_false run.from place (omega (arith, side.0))) refl

  pub side_by_side-below : (runs : List (Run M)) (from to place : ℕ) → LieSideBySide from to runs → from ≤ place → LieSideBySide from (min to place) (runs_below place runs)
  side_by_side-below [] from to place e le = omega arith
  side_by_side-below (run ∷ runs) from to place side le =
      let ends = side_by_side-le runs run.to to side.2 in
      let P : ℕ → Type 0 = λ k. LieSideBySide k (min to place) (runs_below place runs) in
      let Q : List (Run M) → Type 0 = λ rest. LieSideBySide (min run.to place) (min to place) rest in
      ⊎_elim
      (λ h. rw (lt_true run.from place h) (
        side.0,
        omega (arith, side.0, side.1),
        ⊎_elim
            (λ below. subst Q (sym (runs_below_nothing runs run.to to place side.2 (omega arith))) (omega arith))
            (λ past. subst P (omega arith) (side_by_side-below runs run.to to place side.2 past))
            (cases_lt place run.to),
      ))
      (λ h. rw (lt_false run.from place h) (omega (arith, side.0, side.1)))
      (cases_lt run.from place)

  pub marks_of-below : (runs : List (Run M)) (from to place : ℕ) → LieSideBySide from to runs → marks_of (runs_below place runs) ≡ take (place - from) (marks_of runs)
  marks_of-below [] from to place e = sym (take_nothing (place - from))
  marks_of-below (run ∷ runs) from to place side =
      ⊎_elim
      (λ h. rw (lt_true run.from place h) (⊎_elim
      (λ below. rw (runs_below_nothing runs run.to to place side.2 (omega arith), append-nil, take_in_run (run.to - run.from) (place - from) run.mark (marks_of runs) (omega (arith, side.0)))
      (ap (λ n. replicate n run.mark) (omega (arith, side.0, h, below))))
      (λ past. rw (marks_of-below runs run.to to place side.2, take_run (run.to - run.from) (place - from) (place - run.to) run.mark (marks_of runs) (omega (arith, side.0)) (omega (arith, side.0, side.1)))
      (ap (λ n. replicate n run.mark ++ take (place - run.to) (marks_of runs)) (omega (arith, past))))
      (cases_lt place run.to)))
      (λ h. rw (lt_false run.from place h) (let none : place - from ≡ 0 = omega (arith, side.0) in rw none refl))
      (cases_lt run.from place)

  begins_otherwise-below : (mark : M) (runs : List (Run M)) (place : ℕ) → BeginsOtherwise mark runs → BeginsOtherwise mark (runs_below place runs)
  begins_otherwise-below mark [] place other = tt
  begins_otherwise-below mark (run ∷ runs) place other =
      ⊎_elim (λ h. rw (lt_true run.from place h) other) (λ h. rw (lt_false run.from place h) tt) (cases_lt run.from place)

  pub neighbours_differ-below : (runs : List (Run M)) (place : ℕ) → NeighboursDiffer runs → NeighboursDiffer (runs_below place runs)
  neighbours_differ-below [] place differ = tt
  neighbours_differ-below (run ∷ runs) place differ =
      ⊎_elim
      (λ h. rw (lt_true run.from place h) (begins_otherwise-below run.mark runs place differ.0, neighbours_differ-below runs place differ.1))
      (λ h. rw (lt_false run.from place h) tt)
      (cases_lt run.from place)

  -- what cutting the list of runs and the last one of them comes to
  pub runs_below-none : (runs : List (Run M)) (place : ℕ) → begun_before place runs ≡ 0 → runs_below place runs ≡ []
  runs_below-none [] place e = refl
  runs_below-none (run ∷ runs) place e =
      ⊎_elim (λ h. let f = rw (lt_true run.from place h) at e in absurd (omega arith)) (λ h. rw (lt_false run.from place h) refl) (cases_lt run.from place)

  -- where a run begins before the place, so does the first one
  begun-gt : (runs : List (Run M)) (from to place i : ℕ) → LieSideBySide from to runs → begun_before place runs ≡ suc i → from < place
  begun-gt [] from to place i side e = absurd (omega arith)
  begun-gt (run ∷ runs) from to place i side e =
      ⊎_elim (λ h. omega (arith, side.0)) (λ h. let f = rw (lt_false run.from place h) at e in absurd (omega arith)) (cases_lt run.from place)

  pub runs_below-some : (runs : List (Run M)) (from to place i : ℕ) (d : Run M) → LieSideBySide from to runs → begun_before place runs ≡ suc i
      → set (take (suc i) runs) i (record (get_or (take (suc i) runs) i d) { to = min (get_or (take (suc i) runs) i d).to place }) ≡ runs_below place runs
  runs_below-some [] from to place i d side e = absurd (omega arith)
  runs_below-some (run ∷ runs) from to place zero d side e =
      ⊎_elim
      (λ h. let none : begun_before place runs ≡ 0 = (let f = rw (lt_true run.from place h) at e in omega arith) in
      rw (lt_true run.from place h, runs_below-none runs place none) refl)
      (λ h. let f = rw (lt_false run.from place h) at e in absurd (omega arith))
      (cases_lt run.from place)
  runs_below-some (run ∷ runs) from to place (suc i) d side e =
      ⊎_elim
      (λ h. let some : begun_before place runs ≡ suc i = (let f = rw (lt_true run.from place h) at e in omega arith) in
      rw (lt_true run.from place h) (let whole : min run.to place ≡ run.to = omega (arith, begun-gt runs run.to to place i side.2 some) in
      rw whole (ap (λ (t : List (Run M)). run ∷ t) (runs_below-some runs run.to to place i d side.2 some))))
      (λ h. let f = rw (lt_false run.from place h) at e in absurd (omega arith))
      (cases_lt run.from place)

  -- ---- as the code writes it: what is kept of the list, and its first or last run made shorter
  set_first : (kept : List (Run M)) (place : ℕ) (first : Run M) → 0 < length kept → first ≡ get_or kept 0 first
      → set kept 0 (record first { from = max first.from place }) ≡ clipped_front place kept
  set_first [] place first some seen = absurd (omega arith)
  set_first (run ∷ kept) place first some seen = rw seen refl

  pub runs_from-set : (runs kept : List (Run M)) (place k : ℕ) (first : Run M) → k ≡ ended_by place runs → kept ≡ drop k runs → 0 < length kept
      → first ≡ get_or kept 0 first → set kept 0 (record first { from = max first.from place }) ≡ runs_from place runs
  runs_from-set runs kept place k first e left some seen =
      set_first kept place first some seen ∙ ap (clipped_front place) left ∙ ap (λ (n : ℕ). clipped_front place (drop n runs)) e ∙ sym (runs_from-ended_by runs place)

  pub runs_from-empty : (runs kept : List (Run M)) (place k : ℕ) → k ≡ ended_by place runs → kept ≡ drop k runs → (0 < length kept → ⊥) → kept ≡ runs_from place runs
  runs_from-empty runs kept place k e left none =
      let nothing : kept ≡ [] = nil_from_length kept (no_length (length kept) none) in
      nothing ∙ ap (clipped_front place) (sym nothing ∙ left) ∙ ap (λ (n : ℕ). clipped_front place (drop n runs)) e ∙ sym (runs_from-ended_by runs place)

  pub runs_below-set : (runs kept : List (Run M)) (from to place k i : ℕ) (last : Run M) → LieSideBySide from to runs → k ≡ begun_before place runs → kept ≡ take k runs
      → k ≡ suc i → last ≡ get_or kept i last → set kept i (record last { to = min last.to place }) ≡ runs_below place runs
  runs_below-set runs kept from to place k i last side e left some seen =
      let begun : begun_before place runs ≡ suc i = sym e ∙ some in
      let these : kept ≡ take (suc i) runs = left ∙ ap (λ (n : ℕ). take n runs) some in
      let P : Run M → Type 0 = λ r. set kept i (record r { to = min r.to place }) ≡ runs_below place runs in
      let Q : List (Run M) → Type 0 = λ rs. set rs i (record (get_or rs i last) { to = min (get_or rs i last).to place }) ≡ runs_below place runs in
      subst P (sym seen) (subst Q (sym these) (runs_below-some runs from to place i last side begun))

  pub runs_below-empty : (runs kept : List (Run M)) (place k : ℕ) → k ≡ begun_before place runs → kept ≡ take k runs → k ≡ length kept → (0 < length kept → ⊥) → kept ≡ runs_below place runs
  runs_below-empty runs kept place k e left all none =
      let nothing : k ≡ 0 = all ∙ no_length (length kept) none in
      left ∙ ap (λ (n : ℕ). take n runs) nothing ∙ sym (runs_below-none runs place (sym e ∙ nothing))
