use Rattle.world_laws.proofs.Words.{values, octets}
use Rattle.world_laws.proofs.Rounds.AStepAtLeast as steps
use Rattle.world_laws.proofs.laws.each_round_has_a_step.Goals as goal

pub returns-clause-octets : goal.returns-clause-octets
returns-clause-octets c = steps.each_round_has_a_step octets

pub returns-clause-values : goal.returns-clause-values
returns-clause-values c = steps.each_round_has_a_step values
