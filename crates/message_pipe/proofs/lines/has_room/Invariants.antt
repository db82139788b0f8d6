use Rattle.std.proofs.Common.{◌≡◌, ◌+◌, length}
use Rattle.message_pipe.specs.Lines.{framed}
use Rattle.message_pipe.proofs.lines.has_room.Given as goal

abbrev pub invariant-loop-rest : goal.invariant-loop-rest
invariant-loop-rest l = l.room + length (framed l.content) ≡ l.limit + length (framed l.rest)

abbrev pub decreases-loop-rest : goal.decreases-loop-rest
decreases-loop-rest l = length l.rest
