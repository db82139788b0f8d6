-- How many places are carried, by the runs of their marks, and that there is room for a payload.
use Rattle.std.proofs.Common.{◌≡◌, refl, ◌∙◌, ap, ℕ, zero, suc, ◌+◌, ◌-◌, ◌*◌, ◌^◌, ◌<◌, ◌≤◌, min, ◌⊎◌, inl, inr, Bool, true, false, cond, if◌then◌else◌, List, [], ◌∷◌, ◌++◌, take, length-append, replicate, count_by, arith}
use Rattle.std.proofs.lemmas.Bool.{cases_lt}
use Rattle.std.proofs.lemmas.List.{length-replicate}
use Rattle.std.proofs.lemmas.List.Folds.{sum_by-replicate}
use Rattle.std.proofs.lemmas.List.Sums.{sum_by-append}
use Rattle.range_marks.specs.declared.run.Run.{Run}
use Rattle.range_marks.specs.Marks.{Marks, marks_len}
use Rattle.range_marks.specs.Runs.{AreRunsOf, LieSideBySide, marks_of}
use Rattle.range_marks.proofs.Cutting.{take_in_run, take_run}
use Rattle.range_marks.proofs.SideBySide.{side_by_side-le}
use Rattle.link_trace.specs.Places.{carried_below, carried_in, grown}

abbrev carried_count : List Bool → ℕ
carried_count marks = count_by (λ carried. carried) marks

-- how many are marked, of marks alike and others behind them
count_run : (n : ℕ) (mark : Bool) (marks : List Bool) → carried_count (replicate n mark ++ marks) ≡ n * cond mark 1 0 + carried_count marks
count_run n mark marks =
    sum_by-append (λ b. cond b 1 0) (replicate n mark) marks ∙ ap (λ k. k + carried_count marks) (sum_by-replicate (λ b. cond b 1 0) n mark)

count_all : (n : ℕ) (mark : Bool) → carried_count (replicate n mark) ≡ n * cond mark 1 0
count_all n mark = sum_by-replicate (λ b. cond b 1 0) n mark

-- of a run and of those behind it
taken_count : (edge from : ℕ) (run : Run Bool) (marks : List Bool) → run.from ≡ from → from < run.to
    → carried_count (take (edge - from) (replicate (run.to - run.from) run.mark ++ marks))
    ≡ (min run.to edge - min run.from edge) * cond run.mark 1 0 + carried_count (take (edge - run.to) marks)
taken_count edge from run marks is some = by (cases_lt edge run.to)
  where
    n : ℕ
    n = run.to - run.from

    by : (edge < run.to) ⊎ (run.to ≤ edge)
        → carried_count (take (edge - from) (replicate n run.mark ++ marks)) ≡ (min run.to edge - min run.from edge) * cond run.mark 1 0 + carried_count (take (edge - run.to) marks)
    by (inl before) =
        let none : edge - run.to ≡ 0 = omega (arith, before) in
        let same : min run.to edge - min run.from edge ≡ edge - from = omega (arith, before, is) in
        ap carried_count (take_in_run n (edge - from) run.mark marks (omega (arith, before, is)))
        ∙ count_all (edge - from) run.mark ∙ rw (none, same) (omega arith)
    by (inr past) =
        let same : min run.to edge - min run.from edge ≡ n = omega (arith, past, is, some) in
        ap carried_count (take_run n (edge - from) (edge - run.to) run.mark marks (omega (arith, past, is)) (omega (arith, past, is, some)))
        ∙ count_run n run.mark (take (edge - run.to) marks) ∙ rw same refl

carried_in-count : (edge : ℕ) (runs : List (Run Bool)) (from to others : ℕ) → LieSideBySide from to runs → others ≤ from → to < 2 ^ 63
    → carried_in edge others runs ≡ others + carried_count (take (edge - from) (marks_of runs))
carried_in-count edge [] from to others lie few bound = elim (edge - from) as (λ k. others ≡ others + carried_count (take k []))
    [ zero ↦ omega arith | suc k ↦ omega arith ]
carried_in-count edge (run ∷ runs) from to others lie few bound =
    by run.mark refl (λ k. carried_in-count edge runs run.to to k lie.2)
  where
    part : ℕ
    part = min run.to edge - min run.from edge

    rest : ℕ
    rest = carried_count (take (edge - run.to) (marks_of runs))

    by : (b : Bool) → run.mark ≡ b → ((k : ℕ) → k ≤ run.to → to < 2 ^ 63 → carried_in edge k runs ≡ k + rest)
        → (if b then carried_in edge (min (others + part) (2 ^ 64 - 1)) runs else carried_in edge others runs)
        ≡ others + carried_count (take (edge - from) (marks_of (run ∷ runs)))
    by true is later =
        let end : run.to ≤ to = side_by_side-le runs run.to to lie.2 in
        let sum : min (others + part) (2 ^ 64 - 1) ≡ others + part = omega (arith, few, lie.0, end, bound) in
        let counted : carried_count (take (edge - from) (marks_of (run ∷ runs))) ≡ part * 1 + rest =
        taken_count edge from run (marks_of runs) lie.0 lie.1 ∙ rw is refl in
        rw sum (later (others + part) (omega (arith, few, lie.0, lie.1)) bound ∙ omega (arith, counted))
    by false is later =
        let counted : carried_count (take (edge - from) (marks_of (run ∷ runs))) ≡ part * 0 + rest =
        taken_count edge from run (marks_of runs) lie.0 lie.1 ∙ rw is refl in
        later others (omega (arith, few, lie.1)) bound ∙ omega (arith, counted)

-- the runs of the marks tell how many of the places are carried
pub runs_tell : (edge : ℕ) (places : Marks Bool) (runs : List (Run Bool)) → AreRunsOf places runs → marks_len places < 2 ^ 63
    → carried_in edge 0 runs ≡ carried_below edge places
runs_tell edge places runs are bound =
    let counted = carried_in-count edge runs places.forgotten (marks_len places) 0 are.places (omega arith) bound in
    let same = ap (λ marks. carried_count (take (edge - places.forgotten) marks)) are.marks in omega (arith, counted, same)

-- there are as many places as are wanted
pub grown_reaches : (to : ℕ) (places : Marks Bool) → to ≤ marks_len (grown to places)
grown_reaches to places =
    let more : List Bool = replicate (to - marks_len places) false in
    omega (arith, length-append places.marks more, length-replicate (to - marks_len places) false)
