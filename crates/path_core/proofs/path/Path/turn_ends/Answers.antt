use Rattle.path_core.proofs.PathTurns.{turn_is_over, round_is_over}
use Rattle.path_core.proofs.path.Path.turn_ends.Goals as goal

pub returns-clause-turn : goal.returns-clause-turn
returns-clause-turn c = rw (← c.self.view_is) (turn_is_over _ c.self.invariant.0 c.self.invariant.1)

pub returns-clause-round : goal.returns-clause-round
returns-clause-round c = rw (← c.self.view_is) (round_is_over _ c.self.invariant.1)
