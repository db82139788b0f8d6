use Rattle.path_core.proofs.Words.{settles_down}
use Rattle.std.specs.Prelude.{◌≡◌, length}
use Rattle.path_core.proofs.state.PathState.settle.Given as goal

-- what is to come of the path
abbrev pub invariant-loop-duty : goal.invariant-loop-duty
invariant-loop-duty l = settles_down l.self ≡ settles_down l.fn.self

-- the duties that are left
abbrev pub decreases-loop-duty : goal.decreases-loop-duty
decreases-loop-duty l = length l.self.agenda
