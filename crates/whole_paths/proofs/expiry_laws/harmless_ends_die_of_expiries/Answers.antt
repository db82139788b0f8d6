use Rattle.whole_paths.proofs.HarmlessDeaths as dying
use Rattle.whole_paths.proofs.expiry_laws.harmless_ends_die_of_expiries.Goals as goal

pub returns : goal.returns
returns c = dying.harmless_ends_die_of_expiries
