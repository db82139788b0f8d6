use Rattle.std.proofs.Common.{take}
use Rattle.range_marks.proofs.Parts.{Copied}
use Rattle.range_marks.proofs.marks.RangeMarks.extend_from.Given as goal

abbrev pub invariant-loop-run : goal.invariant-loop-run
invariant-loop-run g l = Copied l.other l.fn.self l.self l.other.forgotten l.to (take l.run-index l.run-items)
