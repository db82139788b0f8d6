use Rattle.world_laws.proofs.Promises.WhateverIsAltered.{nothing_follows}
use Rattle.world_laws.proofs.Promises.Made.{nothing_follows_in_octets}
use Rattle.world_laws.proofs.laws.nothing_follows_the_end.Goals as goal

pub returns-clause-values : goal.returns-clause-values
returns-clause-values c = nothing_follows

pub returns-clause-octets : goal.returns-clause-octets
returns-clause-octets c = nothing_follows_in_octets
