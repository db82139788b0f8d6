-- What is lent of a path, and what it becomes by that.
use Rattle.std.specs.Prelude.{ℕ, List}
use Rattle.std.specs.Borrow.{Lends, MutBor, Fml}
use Rattle.sides.specs.declared.side.Side.{Side}
use Rattle.path_core.specs.contracts.state.PathState as state
use Rattle.path_core.specs.contracts.end.PathEnd as path_end
use Rattle.path_core.specs.End.{PathEnd}
use Rattle.path_core.specs.State.{PathState, with_end}

-- the end of a side becomes what is left behind the reference
abbrev pub LendsEnd : MutBor (PathState (List ℕ)) → Side → MutBor PathEnd → Fml
LendsEnd p s r = Lends state.the_row path_end.the_row p r (λ e. with_end s e p.now)
