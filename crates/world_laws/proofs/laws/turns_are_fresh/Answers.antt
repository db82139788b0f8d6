use Rattle.world_laws.proofs.Promises.Made.{run_fresh}
use Rattle.world_laws.proofs.Numbers.EveryTurn.{every_list_is_fresh}
use Rattle.world_laws.proofs.laws.turns_are_fresh.Goals as goal

pub returns-clause-fresh : goal.returns-clause-fresh
returns-clause-fresh c = every_list_is_fresh

pub returns-clause-same : goal.returns-clause-same
returns-clause-same c = run_fresh
