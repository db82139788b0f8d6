use Rattle.world_laws.proofs.Words.{values, octets}
use Rattle.world_laws.proofs.Weaving.WholeRounds.{woven_does, steps_weave, rounds_weave}
use Rattle.world_laws.proofs.laws.woven_rounds_do_the_same.Goals as goal

pub returns-clause-octets : goal.returns-clause-octets
returns-clause-octets c = woven_does octets

pub returns-clause-values : goal.returns-clause-values
returns-clause-values c = woven_does values

pub returns-clause-steps : goal.returns-clause-steps
returns-clause-steps c = steps_weave octets

pub returns-clause-rounds : goal.returns-clause-rounds
returns-clause-rounds c = rounds_weave octets
