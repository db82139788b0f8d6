use Rattle.world_laws.proofs.Promises.WhateverIsAltered.{keep_count}
use Rattle.world_laws.proofs.Promises.Made.{keep_count_in_octets}
use Rattle.world_laws.proofs.laws.counts_are_kept_whatever_is_altered.Goals as goal

pub returns-clause-values : goal.returns-clause-values
returns-clause-values c = keep_count

pub returns-clause-octets : goal.returns-clause-octets
returns-clause-octets c = keep_count_in_octets
