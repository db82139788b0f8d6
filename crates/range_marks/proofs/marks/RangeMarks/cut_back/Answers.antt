use Rattle.std.proofs.Common.{refl, arith}
use Rattle.range_marks.proofs.Cutting.{side_by_side-below, marks_of-below, neighbours_differ-below}
use Rattle.range_marks.proofs.marks.RangeMarks.cut_back.Goals as goal

pub invariant_of-self : goal.invariant_of-self
invariant_of-self g c =
    let begins = rw (← c.self.view_is) at c.requires in
    rw (c.min-self-inside.ensures, c.cut_runs.ensures c.self.inside.forgotten c.self.inside.len c.self.invariant.places) (record {
      places = side_by_side-below c.self.inside.runs.items c.self.inside.forgotten c.self.inside.len c.args.to c.self.invariant.places begins;
      fewest = neighbours_differ-below c.self.inside.runs.items c.args.to c.self.invariant.fewest;
      bound = omega (arith, c.self.invariant.bound);
    })

pub returns : goal.returns
returns g c =
    rw (← c.self.view_is, c.cut_runs.ensures c.self.inside.forgotten c.self.inside.len c.self.invariant.places, marks_of-below c.self.inside.runs.items c.self.inside.forgotten c.self.inside.len c.args.to c.self.invariant.places) refl
