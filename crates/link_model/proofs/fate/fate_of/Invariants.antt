use Rattle.std.proofs.Common.{◌≡◌, drop}
use Rattle.link_model.specs.Fate.{fate_of}
use Rattle.link_model.proofs.fate.fate_of.Given as goal

abbrev pub invariant-loop-line : goal.invariant-loop-line
invariant-loop-line l = fate_of l.from l.number (drop l.line-index l.lines) ≡ fate_of l.from l.number l.lines
