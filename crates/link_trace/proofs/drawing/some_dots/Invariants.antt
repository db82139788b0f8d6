use Rattle.std.proofs.Common.{◌≡◌, ◌++◌, drop}
use Rattle.link_trace.specs.Pictures.{some_dots, dots_from}
use Rattle.link_trace.proofs.drawing.some_dots.Given as goal

abbrev pub invariant-loop-index : goal.invariant-loop-index
invariant-loop-index l = l.some.items ++ dots_from l.every l.index (drop l.index l.dots) ≡ some_dots l.every l.dots
