use Rattle.std.proofs.Common.{◌≢◌, ℕ, ◌<◌, List, get_or, sym, ◌∙◌, subst, arith}
use Rattle.range_marks.specs.declared.run.Run.{Run}
use Rattle.range_marks.proofs.Told.{is_first_where_read, is_nowhere}
use Rattle.range_marks.proofs.marks.RangeMarks.first_where.Goals as goal

pub returns-then-eq-clause-found : goal.returns-then-eq-clause-found
returns-then-eq-clause-found g c =
    let P : List (Run g.row.M.Denot) → Type 0 = λ runs. (k : ℕ) (d : Run g.row.M.Denot) → k < c.loop-run.run-index → c.args.from < (get_or runs k d).to → (get_or runs k d).mark ≢ c.args.test.now in
    let read = rw c.deref-run-items.ensures.value at c.run-item.is in
    rw (← c.self.view_is, c.max.ensures)
    (is_first_where_read c.self.inside.runs.items c.self.inside.forgotten c.self.inside.len c.args.from c.loop-run.run-index c.run-item.result c.args.test.now
    c.self.invariant.places (omega arith) read c.if-from-run.true (g.met.M.Mark.exact c.run-item.result.mark c.args.test.now (sym c.eq.ensures ∙ c.if-eq.true))
    (subst P c.deref-run-items.ensures.value c.loop-run.invariant))

pub returns-clause-none : goal.returns-clause-none
returns-clause-none g c =
    let P : List (Run g.row.M.Denot) → Type 0 = λ runs. (k : ℕ) (d : Run g.row.M.Denot) → k < c.loop-run.run-index → c.args.from < (get_or runs k d).to → (get_or runs k d).mark ≢ c.args.test.now in
    let others = subst P c.deref-run-items.ensures.value c.loop-run.invariant in
    rw (← c.self.view_is)
    (is_nowhere c.self.inside.runs.items c.self.inside.forgotten c.self.inside.len c.args.from c.args.test.now c.self.invariant.places
    (λ k d less. others k d (omega arith)))
