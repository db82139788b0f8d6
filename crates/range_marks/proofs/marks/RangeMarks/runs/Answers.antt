use Rattle.std.proofs.Common.{refl}
use Rattle.range_marks.proofs.SideBySide.{length-marks_of}
use Rattle.range_marks.proofs.marks.RangeMarks.runs.Goals as goal

pub returns : goal.returns
returns g c =
    let whole = length-marks_of c.self.inside.runs.items c.self.inside.forgotten c.self.inside.len c.self.invariant.places in
    rw (← c.self.view_is, c.of.ensures, c.as_slice.ensures.value) (record {
      places = rw whole c.self.invariant.places;
      marks = refl;
      fewest = c.self.invariant.fewest;
    })
