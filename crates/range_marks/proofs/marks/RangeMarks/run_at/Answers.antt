use Rattle.std.proofs.Common.{◌≡◌, get_or, refl, sym, ap, ◌∙◌, subst, inl, inr, ⊎_elim, true≢false, arith}
use Rattle.range_marks.specs.declared.run.Run.{Run}
use Rattle.range_marks.specs.Marks.{IsRunAt}
use Rattle.range_marks.specs.Runs.{ended_by, marks_of}
use Rattle.range_marks.proofs.SideBySide.{length-marks_of}
use Rattle.range_marks.proofs.Told.{is_run_at, ended_by-lt}
use Rattle.range_marks.proofs.marks.RangeMarks.run_at.Goals as goal
use Rattle.range_marks.proofs.marks.RangeMarks.run_at.Goals.{then-at-self-via-then-at-self, then-at-self-via-else-at-self+then-self-at}

pub returns-then-at-self-clause-none : goal.returns-then-at-self-clause-none
returns-then-at-self-clause-none g c =
    let whole = length-marks_of c.self.inside.runs.items c.self.inside.forgotten c.self.inside.len c.self.invariant.places in
    rw (← c.self.view_is) (
      λ _. elim c.then-at-self.branch [
        | then-at-self-via-then-at-self w ↦ inl (omega arith)
        | then-at-self-via-else-at-self+then-self-at w ↦ inr (omega arith)
      ],
      λ _. refl,
    )

pub index-run-requires : goal.index-run-requires
index-run-requires g c =
    let same : c.ended_by-index.result ≡ ended_by c.args.at c.self.inside.runs.items = c.ended_by-index.ensures.value ∙ ap (ended_by c.args.at) c.deref.ensures.value in
    let lt = ended_by-lt c.self.inside.runs.items c.self.inside.forgotten c.self.inside.len c.args.at c.self.invariant.places (omega arith) (omega arith) in
    omega (arith, lt, same)

pub returns-clause-run : goal.returns-clause-run
returns-clause-run g c =
    let same : c.ended_by-index.result ≡ ended_by c.args.at c.self.inside.runs.items = c.ended_by-index.ensures.value ∙ ap (ended_by c.args.at) c.deref.ensures.value in
    let here = is_run_at c.self.inside.runs.items c.self.inside.forgotten c.self.inside.len c.args.at c.index-run.result.now c.self.invariant.places c.self.invariant.fewest (omega arith) (omega arith) in
    let read = c.index-run.ensures ∙ ap (λ n. get_or c.self.inside.runs.items n c.index-run.result.now) same in
    let P : Run g.row.M.Denot → Type 0 = λ run. IsRunAt (record { forgotten = c.self.inside.forgotten; marks = marks_of c.self.inside.runs.items }) c.args.at run.to run.mark in
    rw (← c.self.view_is) (subst P (sym read) here)

pub returns-clause-none : goal.returns-clause-none
returns-clause-none g c =
    let whole = length-marks_of c.self.inside.runs.items c.self.inside.forgotten c.self.inside.len c.self.invariant.places in
    rw (← c.self.view_is)
    (λ e. absurd (true≢false e), ⊎_elim (λ h. absurd (omega arith)) (λ h. absurd (omega arith)))
