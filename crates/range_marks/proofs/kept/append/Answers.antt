use Rattle.std.proofs.Common.{◌≡◌, ◌-◌, true, List, refl, sym, ◌∙◌, subst, arith, append-nil, true≢false}
use Rattle.range_marks.specs.declared.run.Run.{Run}
use Rattle.range_marks.specs.Runs.{NeighboursDiffer}
use Rattle.range_marks.proofs.SideBySide.{side_by_side-push, neighbours_differ-push, marks_of-append, side_by_side-longer, marks_of-longer_read, neighbours_differ-longer, mark_read}
use Rattle.range_marks.proofs.kept.append.Goals as goal
use Rattle.range_marks.proofs.kept.append.Goals.{else-len-gt0-via-then-len-gt0+else-eq, else-len-gt0-via-else-len-gt0}

pub returns-then-eq-clause-places : goal.returns-then-eq-clause-places
returns-then-eq-clause-places g c = λ from side.
    let longer = side_by_side-longer c.args.runs.now.items from c.args.run.from c.args.run.to (c.len-len.result - 1) c.index_mut.result.now side c.requires (omega arith) in
    rw c.index_mut.ensures.value longer

pub returns-then-eq-clause-marks : goal.returns-then-eq-clause-marks
returns-then-eq-clause-marks g c = λ from side.
    marks_of-longer_read c.args.runs.now.items from c.args.run.from c.args.run.to (c.len-len.result - 1) c.index.result.now c.index_mut.result.now c.args.run.mark side c.requires (omega arith)
    c.index.ensures c.index_mut.ensures.value (g.met.M.Mark.exact c.index.result.now.mark c.args.run.mark (sym c.eq.ensures ∙ c.if-eq.true))

pub returns-then-eq-clause-fewest : goal.returns-then-eq-clause-fewest
returns-then-eq-clause-fewest g c = λ differ.
    let longer = neighbours_differ-longer c.args.runs.now.items c.args.run.to (c.len-len.result - 1) c.index_mut.result.now differ (omega arith) in
    rw c.index_mut.ensures.value longer

pub returns-clause-places : goal.returns-clause-places
returns-clause-places g c = λ from side.
    rw c.in_ok-push.ensures.items (side_by_side-push c.args.runs.now.items from c.args.run.from c.args.run side refl (omega arith))

pub returns-clause-marks : goal.returns-clause-marks
returns-clause-marks g c = λ from side.
    rw (c.in_ok-push.ensures.items, marks_of-append) (rw append-nil refl)

pub returns-clause-fewest : goal.returns-clause-fewest
returns-clause-fewest g c = λ differ.
    let P : List (Run g.row.M.Denot) → Type 0 = NeighboursDiffer in
    subst P (sym c.in_ok-push.ensures.items) (neighbours_differ-push c.args.runs.now.items c.args.run c.args.run differ
    (elim c.else-len-gt0.branch [
      | else-len-gt0-via-then-len-gt0+else-eq w ↦ λ i e same.
          let equal : w.index.result.now.mark ≡ c.args.run.mark = mark_read c.args.runs.now.items i (c.len-len.result - 1) w.index.result.now c.args.run c.args.run.mark (omega arith) (omega arith) w.index.ensures same in
          let tests_equal = subst (λ (m : g.row.M.Denot). g.M.PartialEq.eq w.index.result.now.mark m ≡ true) equal (g.met.M.Eq.laws.refl w.index.result.now.mark) in
          true≢false (sym tests_equal ∙ sym w.eq.ensures ∙ w.if-eq.false)
      | else-len-gt0-via-else-len-gt0 w ↦ λ i e. absurd (omega arith)
    ]))
