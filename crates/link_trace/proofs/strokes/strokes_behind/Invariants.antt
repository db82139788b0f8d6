use Rattle.std.proofs.Common.{◌≡◌, ◌++◌, drop}
use Rattle.range_marks.specs.Marks.{no_marks}
use Rattle.link_trace.specs.Strokes.{strokes_behind}
use Rattle.link_trace.proofs.strokes.strokes_behind.Given as goal

abbrev pub invariant-loop-segment : goal.invariant-loop-segment
invariant-loop-segment l = l.strokes.items ++ strokes_behind l.places (drop l.segment-index l.direction) ≡ strokes_behind no_marks l.direction
