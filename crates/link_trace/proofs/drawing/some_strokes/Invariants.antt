use Rattle.std.proofs.Common.{◌≡◌, ◌++◌, drop}
use Rattle.link_trace.specs.Pictures.{some_strokes, strokes_from}
use Rattle.link_trace.proofs.drawing.some_strokes.Given as goal

abbrev pub invariant-loop-index : goal.invariant-loop-index
invariant-loop-index l = l.some.items ++ strokes_from l.every l.index (drop l.index l.strokes) ≡ some_strokes l.every l.strokes
