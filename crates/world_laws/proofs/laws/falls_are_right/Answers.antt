use Rattle.world_laws.proofs.Falls.AreRight as falls
use Rattle.world_laws.proofs.laws.falls_are_right.Goals as goal

pub returns-clause-values : goal.returns-clause-values
returns-clause-values c = falls.falls_are_right

pub returns-clause-last : goal.returns-clause-last
returns-clause-last c = falls.falls_last

pub returns-clause-octets : goal.returns-clause-octets
returns-clause-octets c = falls.falls_in_octets

pub returns-clause-last_of_octets : goal.returns-clause-last_of_octets
returns-clause-last_of_octets c = falls.falls_last_in_octets

pub returns-clause-places : goal.returns-clause-places
returns-clause-places c = falls.positions_are_places

pub returns-clause-heard : goal.returns-clause-heard
returns-clause-heard c = falls.places_in_octets

pub returns-clause-whole : goal.returns-clause-whole
returns-clause-whole c = falls.positions_were_places

pub returns-clause-whole_of_octets : goal.returns-clause-whole_of_octets
returns-clause-whole_of_octets c = falls.places_were_in_octets
