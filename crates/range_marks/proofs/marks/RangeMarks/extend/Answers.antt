use Rattle.std.proofs.Common.{arith}
use Rattle.range_marks.proofs.SideBySide.{length-marks_of}
use Rattle.range_marks.proofs.marks.RangeMarks.extend.Goals as goal

pub invariant_of-self-2 : goal.invariant_of-self-2
invariant_of-self-2 g c =
    let room = rw (← c.self.view_is) at c.requires in
    let whole = length-marks_of c.self.inside.runs.items c.self.inside.forgotten c.self.inside.len c.self.invariant.places in record {
      places = c.in_ok-append.ensures.places c.self.inside.forgotten c.self.invariant.places;
      fewest = c.in_ok-append.ensures.fewest c.self.invariant.fewest;
      bound = omega (arith, room, whole);
    }
