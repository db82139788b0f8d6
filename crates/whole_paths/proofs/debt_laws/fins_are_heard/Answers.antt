use Rattle.whole_paths.proofs.FinsHeard.{fins_are_heard}
use Rattle.whole_paths.proofs.debt_laws.fins_are_heard.Goals as goal

pub returns : goal.returns
returns c = fins_are_heard
