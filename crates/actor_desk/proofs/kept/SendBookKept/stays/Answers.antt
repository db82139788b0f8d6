use Rattle.actor_desk.proofs.Small.{written_small}
use Rattle.actor_desk.proofs.kept.SendBookKept.stays.Goals as goal

pub returns : goal.returns
returns c = λ book call can small. written_small book call small
