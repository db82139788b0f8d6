use Rattle.std.proofs.Common.{sym}
use Rattle.range_marks.proofs.SideBySide.{length-marks_of}
use Rattle.range_marks.proofs.marks.RangeMarks.len.Goals as goal

pub returns-clause-value : goal.returns-clause-value
returns-clause-value g c =
    rw (← c.self.view_is) (sym (length-marks_of c.self.inside.runs.items c.self.inside.forgotten c.self.inside.len c.self.invariant.places))
