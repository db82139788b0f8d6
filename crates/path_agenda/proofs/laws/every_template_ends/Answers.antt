use Rattle.path_agenda.proofs.Ended.{templates_end}
use Rattle.path_agenda.proofs.laws.every_template_ends.Goals as goal

pub returns : goal.returns
returns c = templates_end
