-- What is told of a place, against the runs that hold the marks.
use Rattle.std.proofs.Common.{◌≡◌, ◌≢◌, ℕ, zero, suc, ◌+◌, ◌-◌, ◌<◌, ◌≤◌, max, Option, Some, None, List, [], ◌∷◌, ◌++◌, length, get_or, replicate, refl, sym, ap, ◌∙◌, subst, ⊎_elim, arith}
use Rattle.std.specs.Prelude.{slice_get}
use Rattle.std.proofs.lemmas.Bool.{cases_lt}
use Rattle.range_marks.specs.declared.run.Run.{Run}
use Rattle.range_marks.specs.Marks.{mark_at, IsRunAt, IsFirstWhere}
use Rattle.range_marks.specs.Runs.{marks_of, LieSideBySide, BeginsOtherwise, NeighboursDiffer, ended_by}
use Rattle.range_marks.proofs.SideBySide.{le_true, le_false, lt_true, lt_false, side_by_side-le, run_within}

module _ {M : Type 0} where
  slice_get-in_run : (n i : ℕ) (mark : M) (ms : List M) → i < n → slice_get (replicate n mark ++ ms) i ≡ Some mark
  slice_get-in_run zero i mark ms lt = absurd (omega arith)
  slice_get-in_run (suc n) zero mark ms lt = refl
  slice_get-in_run (suc n) (suc i) mark ms lt = slice_get-in_run n i mark ms (omega arith)

  slice_get-past_run : (n i k : ℕ) (mark : M) (ms : List M) → n + k ≡ i → slice_get (replicate n mark ++ ms) i ≡ slice_get ms k
  slice_get-past_run zero i k mark ms e = ap (slice_get ms) (omega arith)
  slice_get-past_run (suc n) zero k mark ms e = absurd (omega arith)
  slice_get-past_run (suc n) (suc i) k mark ms e = slice_get-past_run n i k mark ms (omega arith)

  -- the mark of a place, where the first of these marks is that of the place `from`
  abbrev pub told : ℕ → List M → ℕ → Option M
  told from marks place = mark_at (record { forgotten = from; marks = marks }) place

  none_is_not_some : (o : Option M) (mark : M) → o ≡ None → o ≢ Some mark
  none_is_not_some o mark e f = cc

  told-before : (from place : ℕ) (marks : List M) → place < from → told from marks place ≡ None
  told-before from place marks lt = rw (lt_true place from lt) refl

  told-nothing : (from place : ℕ) → told from [] place ≡ None
  told-nothing from place = ⊎_elim (λ h. rw (lt_true place from h) refl) (λ h. rw (lt_false place from h) refl) (cases_lt place from)

  told-in_run : (from to n place : ℕ) (mark : M) (ms : List M) → from + n ≡ to → from ≤ place → place < to → told from (replicate n mark ++ ms) place ≡ Some mark
  told-in_run from to n place mark ms e le lt = rw (lt_false place from le) (slice_get-in_run n (place - from) mark ms (omega arith))

  told-past_run : (from to n place : ℕ) (mark : M) (ms : List M) → from + n ≡ to → to ≤ place → told from (replicate n mark ++ ms) place ≡ told to ms place
  told-past_run from to n place mark ms e le =
      rw (lt_false place from (omega arith), lt_false place to le) (slice_get-past_run n (place - from) (place - to) mark ms (omega arith))

  told-begin : (runs : List (Run M)) (from to : ℕ) (mark : M) → LieSideBySide from to runs → BeginsOtherwise mark runs → told from (marks_of runs) from ≢ Some mark
  told-begin [] from to mark side other = none_is_not_some _ mark (told-nothing from from)
  told-begin (run ∷ runs) from to mark side other = λ same.
      let own = told-in_run from run.to (run.to - run.from) from run.mark (marks_of runs) (omega (arith, side.0, side.1)) (omega arith) side.1 in
      other (cc)

  -- ---- the run that holds a place
  pub ended_by-lt : (runs : List (Run M)) (from to place : ℕ) → LieSideBySide from to runs → from ≤ place → place < to → ended_by place runs < length runs
  ended_by-lt [] from to place side le lt = absurd (omega arith)
  ended_by-lt (run ∷ runs) from to place side le lt =
      ⊎_elim (λ h. rw (le_false run.to place h) (omega arith)) (λ h. rw (le_true run.to place h) (omega (arith, ended_by-lt runs run.to to place side.2 h lt))) (cases_lt place run.to)

  pub ended_by-all : (runs : List (Run M)) (from to place : ℕ) → LieSideBySide from to runs → to ≤ place → ended_by place runs ≡ length runs
  ended_by-all [] from to place side le = refl
  ended_by-all (run ∷ runs) from to place side le =
      rw (le_true run.to place (omega (arith, side_by_side-le runs run.to to side.2))) (ap suc (ended_by-all runs run.to to place side.2 le))

  pub is_run_at : (runs : List (Run M)) (from to at : ℕ) (d : Run M) → LieSideBySide from to runs → NeighboursDiffer runs → from ≤ at → at < to
      → IsRunAt (record { forgotten = from; marks = marks_of runs }) at (get_or runs (ended_by at runs) d).to (get_or runs (ended_by at runs) d).mark
  is_run_at [] from to at d side differ le lt = absurd (omega arith)
  is_run_at (run ∷ runs) from to at d side differ le lt =
      let n : from + (run.to - run.from) ≡ run.to = omega (arith, side.0, side.1) in
      ⊎_elim
      (λ h. rw (le_false run.to at h) (record {
        not_empty = h;
        marked = λ place lo hi. told-in_run from run.to (run.to - run.from) place run.mark (marks_of runs) n (omega arith) hi;
        greatest = let P : Option M → Type 0 = λ o. o ≢ Some run.mark in
            subst P (sym (told-past_run from run.to (run.to - run.from) run.to run.mark (marks_of runs) n (omega arith))) (told-begin runs run.to to run.mark side.2 differ.0);
      }))
      (λ h. rw (le_true run.to at h) (
      let rest = is_run_at runs run.to to at d side.2 differ.1 h lt in
      let ended = get_or runs (ended_by at runs) d in record {
        not_empty = rest.not_empty;
        marked = λ place lo hi. told-past_run from run.to (run.to - run.from) place run.mark (marks_of runs) n (omega arith) ∙ rest.marked place lo hi;
        greatest = let P : Option M → Type 0 = λ o. o ≢ Some ended.mark in
            subst P (sym (told-past_run from run.to (run.to - run.from) ended.to run.mark (marks_of runs) n (omega (arith, rest.not_empty)))) rest.greatest;
      }))
      (cases_lt at run.to)

  -- ---- the first place with a mark
  pub is_first_where : (runs : List (Run M)) (from to place j : ℕ) (d : Run M) (mark : M) → LieSideBySide from to runs → j < length runs
      → place < (get_or runs j d).to → (get_or runs j d).mark ≡ mark → ((k : ℕ) → k < j → place < (get_or runs k d).to → (get_or runs k d).mark ≢ mark)
      → IsFirstWhere (record { forgotten = from; marks = marks_of runs }) place mark (max (get_or runs j d).from place)
  is_first_where [] from to place j d mark side lt ends same others = absurd (omega arith)
  is_first_where (run ∷ runs) from to place zero d mark side lt ends same others =
      let n : from + (run.to - run.from) ≡ run.to = omega (arith, side.0, side.1) in record {
        not_before = omega arith;
        marked = told-in_run from run.to (run.to - run.from) (max run.from place) run.mark (marks_of runs) n (omega (arith, side.0)) (omega (arith, side.0, side.1)) ∙ ap (λ m. Some m) same;
        first = λ k lo hi. none_is_not_some _ mark (told-before from k (marks_of (run ∷ runs)) (omega (arith, side.0)));
      }
  is_first_where (run ∷ runs) from to place (suc j) d mark side lt ends same others =
      let n : from + (run.to - run.from) ≡ run.to = omega (arith, side.0, side.1) in
      let rest = is_first_where runs run.to to place j d mark side.2 (omega arith) ends same (λ k less. others (suc k) (omega arith)) in
      let within = run_within runs run.to to side.2 j d (omega arith) in record {
        not_before = rest.not_before;
        marked = told-past_run from run.to (run.to - run.from) (max (get_or runs j d).from place) run.mark (marks_of runs) n (omega (arith, within.0)) ∙ rest.marked;
        first = λ k lo hi.
            ⊎_elim
            (λ before. none_is_not_some _ mark (told-before from k (marks_of (run ∷ runs)) before))
            (λ after. ⊎_elim
            (λ here. let own = told-in_run from run.to (run.to - run.from) k run.mark (marks_of runs) n after here in λ same'. others 0 (omega arith) (omega arith) (cc))
            (λ past. let P : Option M → Type 0 = λ o. o ≢ Some mark in subst P (sym (told-past_run from run.to (run.to - run.from) k run.mark (marks_of runs) n past)) (rest.first k lo hi))
            (cases_lt k run.to))
            (cases_lt k from);
      }

  -- the first place that has a mark, where the run that has it was read at its index
  pub is_first_where_read : (runs : List (Run M)) (from to place j : ℕ) (run : Run M) (mark : M) → LieSideBySide from to runs → j < length runs → run ≡ get_or runs j run
      → place < run.to → run.mark ≡ mark → ((k : ℕ) (d : Run M) → k < j → place < (get_or runs k d).to → (get_or runs k d).mark ≢ mark)
      → IsFirstWhere (record { forgotten = from; marks = marks_of runs }) place mark (max run.from place)
  is_first_where_read runs from to place j run mark side lt read ends same others =
      let P : Run M → Type 0 = λ r. IsFirstWhere (record { forgotten = from; marks = marks_of runs }) place mark (max r.from place) in
      let Q : Run M → Type 0 = λ r. place < r.to in
      subst P (sym read) (is_first_where runs from to place j run mark side lt (subst Q read ends) (ap (λ (r : Run M). r.mark) (sym read) ∙ same) (λ k. others k run))

  pub is_nowhere : (runs : List (Run M)) (from to place : ℕ) (mark : M) → LieSideBySide from to runs
      → ((k : ℕ) (d : Run M) → k < length runs → place < (get_or runs k d).to → (get_or runs k d).mark ≢ mark)
      → (k : ℕ) → place ≤ k → told from (marks_of runs) k ≢ Some mark
  is_nowhere [] from to place mark side others k le = none_is_not_some _ mark (told-nothing from k)
  is_nowhere (run ∷ runs) from to place mark side others k le =
      let n : from + (run.to - run.from) ≡ run.to = omega (arith, side.0, side.1) in
      ⊎_elim
      (λ before. none_is_not_some _ mark (told-before from k (marks_of (run ∷ runs)) before))
      (λ after. ⊎_elim
      (λ here. let own = told-in_run from run.to (run.to - run.from) k run.mark (marks_of runs) n after here in λ same. others 0 run (omega arith) (omega arith) (cc))
      (λ past. let P : Option M → Type 0 = λ o. o ≢ Some mark in subst P (sym (told-past_run from run.to (run.to - run.from) k run.mark (marks_of runs) n past))
      (is_nowhere runs run.to to place mark side.2 (λ j d less. others (suc j) d (omega arith)) k le))
      (cases_lt k run.to))
      (cases_lt k from)
