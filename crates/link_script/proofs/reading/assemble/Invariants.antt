use Rattle.std.proofs.Common.{◌≡◌, take}
use Rattle.link_script.specs.Reading.{script_of}
use Rattle.link_script.proofs.reading.assemble.Given as goal

abbrev pub invariant-loop-line : goal.invariant-loop-line
invariant-loop-line l = l.script ≡ script_of (take l.line-index l.lines)
