use Rattle.dss_mapping.proofs.LawsProved.{forgotten_are_not_told, others_are_told, places_stay}
use Rattle.dss_mapping.proofs.laws.forgetting_keeps_the_rest.Goals as goal

pub returns-clause-below : goal.returns-clause-below
returns-clause-below c = forgotten_are_not_told

pub returns-clause-others : goal.returns-clause-others
returns-clause-others c = others_are_told

pub returns-clause-places : goal.returns-clause-places
returns-clause-places c = places_stay
