use Rattle.world_laws.proofs.Promises.WhateverIsAltered.{one_step_each}
use Rattle.world_laws.proofs.Promises.Made.{one_step_each_in_octets}
use Rattle.world_laws.proofs.laws.each_turn_is_one_pipe_step_or_none.Goals as goal

pub returns-clause-values : goal.returns-clause-values
returns-clause-values c = one_step_each

pub returns-clause-octets : goal.returns-clause-octets
returns-clause-octets c = one_step_each_in_octets
