use Rattle.actor_desk.proofs.Small.{received_small}
use Rattle.actor_desk.proofs.kept.ReassemblyBookKept.stays.Goals as goal

pub returns : goal.returns
returns c = λ book call can small. received_small book call small can
