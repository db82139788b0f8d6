use Rattle.dss_mapping.proofs.LawsProved.{learned_places}
use Rattle.dss_mapping.proofs.laws.learning_gives_places.Goals as goal

pub returns : goal.returns
returns c = learned_places
