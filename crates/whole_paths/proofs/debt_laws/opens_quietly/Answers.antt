use Rattle.whole_paths.proofs.OpenQuietly as quiet
use Rattle.whole_paths.proofs.debt_laws.opens_quietly.Goals as goal

pub returns : goal.returns
returns c = quiet.opens_quietly
