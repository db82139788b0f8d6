use Rattle.std.proofs.Common.{◌≡◌, ◌≤◌, ◌++◌, length}
use Rattle.message_pipe.specs.Lines.{framed}
use Rattle.message_pipe.proofs.lines.framed.Given as goal

abbrev pub invariant-loop-rest : goal.invariant-loop-rest
invariant-loop-rest l = (l.frames.items ++ framed l.rest ≡ framed l.content) × (length l.rest ≤ length l.content)

abbrev pub decreases-loop-rest : goal.decreases-loop-rest
decreases-loop-rest l = length l.rest
