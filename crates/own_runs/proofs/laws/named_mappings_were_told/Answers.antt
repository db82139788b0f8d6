use Rattle.own_runs.proofs.NamedTold.{named_told}
use Rattle.own_runs.proofs.laws.named_mappings_were_told.Goals as goal

pub returns : goal.returns
returns c = named_told
