use Rattle.whole_paths.proofs.Harmed as harmed
use Rattle.whole_paths.proofs.delivery_laws.harms_use_lines.Goals as goal

pub returns : goal.returns
returns c = harmed.harms_use_lines
