use Rattle.whole_paths.proofs.OwedGoes as owing
use Rattle.whole_paths.proofs.delivery_laws.what_is_owed_goes.Goals as goal

pub returns : goal.returns
returns c = owing.what_is_owed_goes
