use Rattle.std.proofs.Common.{◌<◌, length, subst, arith}
use Rattle.std.proofs.lemmas.List.{get_or_read}
use Rattle.range_marks.specs.declared.run.Run.{Run}
use Rattle.range_marks.proofs.SideBySide.{ended_by_at}
use Rattle.range_marks.proofs.kept.ended_by.Goals as goal

pub returns-then-place-run-clause-value : goal.returns-then-place-run-clause-value
returns-then-place-run-clause-value g c = ended_by_at c.args.runs.now c.args.place c.loop-index.index (omega arith) c.loop-index.invariant (λ d lt.
    let here = get_or_read c.args.runs.now c.loop-index.index c.index-runs-index.result lt c.index-runs-index.is d in
    subst (λ (run : Run g.row.M.Denot). c.args.place < run.to) here c.if-place-run.true)

pub returns-clause-value : goal.returns-clause-value
returns-clause-value g c = ended_by_at c.args.runs.now c.args.place (length c.args.runs.now) (omega arith) (λ j d lt. c.loop-index.invariant j d (omega arith)) (λ d lt. absurd (omega arith))
