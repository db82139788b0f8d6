use Rattle.world_laws.proofs.Words.{values, octets}
use Rattle.world_laws.proofs.Falls.ForGood.{falls_for_good}
use Rattle.world_laws.proofs.Promises.WhateverIsAltered.{prefix_until, placed_until}
use Rattle.world_laws.proofs.Promises.Made.{prefix_in_octets, placed_in_octets}
use Rattle.world_laws.proofs.laws.checked_octets_are_right.Goals as goal

pub returns-clause-prefix : goal.returns-clause-prefix
returns-clause-prefix c = prefix_until

pub returns-clause-placed : goal.returns-clause-placed
returns-clause-placed c = placed_until

pub returns-clause-prefix_of_octets : goal.returns-clause-prefix_of_octets
returns-clause-prefix_of_octets c = prefix_in_octets

pub returns-clause-placed_of_octets : goal.returns-clause-placed_of_octets
returns-clause-placed_of_octets c = placed_in_octets

pub returns-clause-values : goal.returns-clause-values
returns-clause-values c = falls_for_good values

pub returns-clause-octets : goal.returns-clause-octets
returns-clause-octets c = falls_for_good octets
