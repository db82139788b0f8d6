use Rattle.judge_laws.proofs.Told.{mappings_told}
use Rattle.judge_laws.proofs.laws.kept_mappings_are_told.Goals as goal

pub returns : goal.returns
returns c = mappings_told
