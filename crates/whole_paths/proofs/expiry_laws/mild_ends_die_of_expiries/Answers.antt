use Rattle.whole_paths.proofs.MildDeaths as dying
use Rattle.whole_paths.proofs.expiry_laws.mild_ends_die_of_expiries.Goals as goal

pub returns : goal.returns
returns c = dying.mild_ends_die_of_expiries
