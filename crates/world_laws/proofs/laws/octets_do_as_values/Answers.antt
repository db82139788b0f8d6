use Rattle.world_laws.proofs.Worlds.Carrying.{run_same}
use Rattle.world_laws.proofs.laws.octets_do_as_values.Goals as goal

pub returns : goal.returns
returns c = run_same
