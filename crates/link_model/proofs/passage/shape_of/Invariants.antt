use Rattle.std.proofs.Common.{◌≡◌, take}
use Rattle.link_model.specs.Passage.{shape_of}
use Rattle.link_model.proofs.passage.shape_of.Given as goal

abbrev pub invariant-loop-line : goal.invariant-loop-line
invariant-loop-line l = l.shape ≡ shape_of l.from (take l.line-index l.lines)
