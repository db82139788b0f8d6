use Rattle.whole_paths.proofs.HarmlessDeaths as dying
use Rattle.whole_paths.proofs.expiry_laws.first_addresses_stay.Goals as goal

pub returns : goal.returns
returns c = dying.first_addresses_stay
