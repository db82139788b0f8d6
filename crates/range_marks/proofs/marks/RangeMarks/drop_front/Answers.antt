use Rattle.std.proofs.Common.{refl, arith}
use Rattle.range_marks.proofs.SideBySide.{length-marks_of}
use Rattle.range_marks.proofs.Cutting.{side_by_side-from, marks_of-from, neighbours_differ-from}
use Rattle.range_marks.proofs.marks.RangeMarks.drop_front.Goals as goal

pub invariant_of-self : goal.invariant_of-self
invariant_of-self g c =
    let within = rw (← c.self.view_is) at c.requires in
    let whole = length-marks_of c.self.inside.runs.items c.self.inside.forgotten c.self.inside.len c.self.invariant.places in
    rw (c.max-self-inside.ensures, c.drop_runs.ensures) (record {
      places = side_by_side-from c.self.inside.runs.items c.self.inside.forgotten c.self.inside.len c.args.to c.self.invariant.places (omega (arith, within, whole));
      fewest = neighbours_differ-from c.self.inside.runs.items c.args.to c.self.invariant.fewest;
      bound = c.self.invariant.bound;
    })

pub returns : goal.returns
returns g c =
    rw (← c.self.view_is, c.max-self-inside.ensures, c.drop_runs.ensures, marks_of-from c.self.inside.runs.items c.self.inside.forgotten c.self.inside.len c.args.to c.self.invariant.places) refl
