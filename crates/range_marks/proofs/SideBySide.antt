-- Runs that lie side by side, against the marks of their places.
use Rattle.std.proofs.Common.{◌≡◌, ◌≢◌, ℕ, zero, suc, ◌+◌, ◌-◌, ◌<◌, ◌≤◌, true, false, nat_le, nat_lt, List, [], ◌∷◌, ◌++◌, length, get_or, set, replicate, refl, sym, ap, ◌∙◌, append_assoc, arith, length-append, append-nil, subst}
use Rattle.std.proofs.lemmas.Bool.Decides.{nat_tests}
use Rattle.std.proofs.lemmas.List.{get_or_default, get_or_read, length-replicate, replicate-append-replicate}
use Rattle.range_marks.specs.declared.run.Run.{Run}
use Rattle.range_marks.specs.Runs.{marks_of, LieSideBySide, BeginsOtherwise, NeighboursDiffer, ended_by, begun_before}

pub le_true : (a b : ℕ) → a ≤ b → nat_le a b ≡ true
le_true a b h = grind (arith, nat_tests)

pub le_false : (a b : ℕ) → b < a → nat_le a b ≡ false
le_false a b h = grind (arith, nat_tests)

pub lt_true : (a b : ℕ) → a < b → nat_lt a b ≡ true
lt_true a b h = grind (arith, nat_tests)

pub lt_false : (a b : ℕ) → b ≤ a → nat_lt a b ≡ false
lt_false a b h = grind (arith, nat_tests)

module _ {M : Type 0} where
  -- side by side, the last run ends no sooner than the first begins
  pub side_by_side-le : (runs : List (Run M)) (from to : ℕ) → LieSideBySide from to runs → from ≤ to
  side_by_side-le [] from to e = omega arith
  side_by_side-le (run ∷ runs) from to h = omega (arith, h.1, side_by_side-le runs run.to to h.2)

  -- as many marks as places
  pub length-marks_of : (runs : List (Run M)) (from to : ℕ) → LieSideBySide from to runs → from + length (marks_of runs) ≡ to
  length-marks_of [] from to e = omega arith
  length-marks_of (run ∷ runs) from to h = rw length-append (omega (arith, h.0, h.1, length-replicate (run.to - run.from) run.mark, length-marks_of runs run.to to h.2))

  pub marks_of-append : (xs ys : List (Run M)) → marks_of (xs ++ ys) ≡ marks_of xs ++ marks_of ys
  marks_of-append [] ys = refl
  marks_of-append (run ∷ xs) ys = rw (marks_of-append xs ys, append_assoc) refl

  -- each run lies between the ends
  pub run_within : (runs : List (Run M)) (from to : ℕ) → LieSideBySide from to runs → (j : ℕ) (d : Run M) → j < length runs
      → (from ≤ (get_or runs j d).from) × ((get_or runs j d).from < (get_or runs j d).to) × ((get_or runs j d).to ≤ to)
  run_within [] from to e j d h = absurd (omega arith)
  run_within (run ∷ runs) from to h zero d few = (omega (arith, h.0), omega (arith, h.0, h.1), side_by_side-le runs run.to to h.2)
  run_within (run ∷ runs) from to h (suc j) d few =
      let rest = run_within runs run.to to h.2 j d (omega arith) in
      (omega (arith, h.1, rest.0), rest.1, rest.2)

  -- the runs before one end at or before the place, and that one, where there is one, ends after it
  pub ended_by_at : (runs : List (Run M)) (place k : ℕ) → k ≤ length runs
      → ((j : ℕ) (d : Run M) → j < k → (get_or runs j d).to ≤ place) → ((d : Run M) → k < length runs → place < (get_or runs k d).to)
      → k ≡ ended_by place runs
  ended_by_at [] place k few before after = omega arith
  ended_by_at (run ∷ runs) place zero few before after = rw (le_false run.to place (after run (omega arith))) refl
  ended_by_at (run ∷ runs) place (suc k) few before after =
      rw (le_true run.to place (before 0 run (omega arith))) (ap suc (ended_by_at runs place k (omega arith)
      (λ j d lt. before (suc j) d (omega arith)) (λ d lt. after d (omega arith))))

  -- the runs before one begin before the place, and that one, where there is one, doesn't
  pub begun_before_at : (runs : List (Run M)) (place k : ℕ) → k ≤ length runs
      → ((j : ℕ) (d : Run M) → j < k → (get_or runs j d).from < place) → ((d : Run M) → k < length runs → place ≤ (get_or runs k d).from)
      → k ≡ begun_before place runs
  begun_before_at [] place k few before after = omega arith
  begun_before_at (run ∷ runs) place zero few before after = rw (lt_false run.from place (after run (omega arith))) refl
  begun_before_at (run ∷ runs) place (suc k) few before after =
      rw (lt_true run.from place (before 0 run (omega arith))) (ap suc (begun_before_at runs place k (omega arith)
      (λ j d lt. before (suc j) d (omega arith)) (λ d lt. after d (omega arith))))

  -- ---- a run is appended
  pub side_by_side-push : (runs : List (Run M)) (from mid : ℕ) (run : Run M) → LieSideBySide from mid runs → run.from ≡ mid → mid < run.to
      → LieSideBySide from run.to (runs ++ run ∷ [])
  side_by_side-push [] from mid run e begins some = (begins ∙ sym e, omega arith, refl)
  side_by_side-push (first ∷ runs) from mid run side begins some = (side.0, side.1, side_by_side-push runs first.to mid run side.2 begins some)

  begins_otherwise-push : (mark : M) (runs : List (Run M)) (run : Run M) → BeginsOtherwise mark runs → (length runs ≡ 0 → mark ≢ run.mark)
      → BeginsOtherwise mark (runs ++ run ∷ [])
  begins_otherwise-push mark [] run other none = none refl
  begins_otherwise-push mark (first ∷ runs) run other none = other

  pub neighbours_differ-push : (runs : List (Run M)) (run : Run M) (d : Run M) → NeighboursDiffer runs
      → ((i : ℕ) → length runs ≡ suc i → (get_or runs i d).mark ≢ run.mark) → NeighboursDiffer (runs ++ run ∷ [])
  neighbours_differ-push [] run d differ last = (tt, tt)
  neighbours_differ-push (first ∷ runs) run d differ last = (
    begins_otherwise-push first.mark runs run differ.0 (λ none. last 0 (ap suc none)),
    neighbours_differ-push runs run d differ.1 (λ i e. last (suc i) (ap suc e)),
  )

  -- ---- the last run is made longer
  pub side_by_side-longer : (runs : List (Run M)) (from mid to i : ℕ) (d : Run M) → LieSideBySide from mid runs → mid ≤ to → length runs ≡ suc i
      → LieSideBySide from to (set runs i (record (get_or runs i d) { to = to }))
  side_by_side-longer [] from mid to i d side le e = absurd (omega arith)
  side_by_side-longer (run ∷ []) from mid to zero d side le e = (side.0, omega (arith, side.1, side.2), refl)
  side_by_side-longer (run ∷ []) from mid to (suc i) d side le e = absurd (omega arith)
  side_by_side-longer (run ∷ next ∷ runs) from mid to zero d side le e = absurd (omega arith)
  side_by_side-longer (run ∷ next ∷ runs) from mid to (suc i) d side le e = (side.0, side.1, side_by_side-longer (next ∷ runs) run.to mid to i d side.2 le (omega arith))

  replicate_sum : (n m k : ℕ) (mark : M) → n + m ≡ k → replicate k mark ≡ replicate n mark ++ replicate m mark
  replicate_sum n m k mark e = rw (replicate-append-replicate, e) refl

  pub marks_of-longer : (runs : List (Run M)) (from mid to i : ℕ) (d : Run M) → LieSideBySide from mid runs → mid ≤ to → length runs ≡ suc i
      → marks_of (set runs i (record (get_or runs i d) { to = to })) ≡ marks_of runs ++ replicate (to - mid) (get_or runs i d).mark
  marks_of-longer [] from mid to i d side le e = absurd (omega arith)
  marks_of-longer (run ∷ []) from mid to zero d side le e =
      rw (append-nil, append-nil) (replicate_sum (run.to - run.from) (to - mid) (to - run.from) run.mark (omega (arith, side.0, side.1, side.2)))
  marks_of-longer (run ∷ []) from mid to (suc i) d side le e = absurd (omega arith)
  marks_of-longer (run ∷ next ∷ runs) from mid to zero d side le e = absurd (omega arith)
  marks_of-longer (run ∷ next ∷ runs) from mid to (suc i) d side le e =
      ap (λ (t : List M). replicate (run.to - run.from) run.mark ++ t) (marks_of-longer (next ∷ runs) run.to mid to i d side.2 le (omega arith)) ∙ sym (append_assoc (replicate (run.to - run.from) run.mark) (marks_of (next ∷ runs)) (replicate (to - mid) (get_or (next ∷ runs) i d).mark))

  pub neighbours_differ-longer : (runs : List (Run M)) (to i : ℕ) (d : Run M) → NeighboursDiffer runs → length runs ≡ suc i
      → NeighboursDiffer (set runs i (record (get_or runs i d) { to = to }))
  neighbours_differ-longer [] to i d differ e = absurd (omega arith)
  neighbours_differ-longer (run ∷ []) to zero d differ e = (tt, tt)
  neighbours_differ-longer (run ∷ []) to (suc i) d differ e = absurd (omega arith)
  neighbours_differ-longer (run ∷ next ∷ runs) to zero d differ e = absurd (omega arith)
  neighbours_differ-longer (run ∷ next ∷ []) to (suc zero) d differ e = (differ.0, (tt, tt))
  neighbours_differ-longer (run ∷ next ∷ []) to (suc (suc i)) d differ e = absurd (omega arith)
  neighbours_differ-longer (run ∷ next ∷ third ∷ runs) to (suc zero) d differ e = absurd (omega arith)
  neighbours_differ-longer (run ∷ next ∷ third ∷ runs) to (suc (suc i)) d differ e = (differ.0, neighbours_differ-longer (next ∷ third ∷ runs) to (suc i) d differ.1 (omega arith))

  -- the last run made longer, where the run that was read and the one written are both the last
  pub marks_of-longer_read : (runs : List (Run M)) (from mid to i : ℕ) (read written : Run M) (mark : M) → LieSideBySide from mid runs → mid ≤ to → length runs ≡ suc i
      → read ≡ get_or runs i read → written ≡ get_or runs i written → read.mark ≡ mark
      → marks_of (set runs i (record written { to = to })) ≡ marks_of runs ++ replicate (to - mid) mark
  marks_of-longer_read runs from mid to i read written mark side le e seen now same =
      let whole = marks_of-longer runs from mid to i written side le e in
      let alike : get_or runs i written ≡ read = get_or_default runs i written read (omega arith) ∙ sym seen in
      let marked : (get_or runs i written).mark ≡ mark = ap (λ (r : Run M). r.mark) alike ∙ same in
      let P : Run M → Type 0 = λ r. marks_of (set runs i (record r { to = to })) ≡ marks_of runs ++ replicate (to - mid) mark in
      let Q : M → Type 0 = λ m. marks_of (set runs i (record (get_or runs i written) { to = to })) ≡ marks_of runs ++ replicate (to - mid) m in
      subst P (sym now) (subst Q marked whole)

  -- the mark that was read at a place of the list
  pub mark_read : (runs : List (Run M)) (i k : ℕ) (read d : Run M) (mark : M) → i ≡ k → k < length runs → read ≡ get_or runs k read
      → (get_or runs i d).mark ≡ mark → read.mark ≡ mark
  mark_read runs i k read d mark e lt seen same =
      let here : read ≡ get_or runs k d = get_or_read runs k read lt seen d in
      let P : ℕ → Type 0 = λ n. (get_or runs n d).mark ≡ mark in
      ap (λ (r : Run M). r.mark) here ∙ subst P e same
