use Rattle.run_log.proofs.FirstRefused.{refuses_the_first}
use Rattle.run_log.proofs.laws.the_first_refused_line_is_told.Goals as goal

pub returns : goal.returns
returns c = refuses_the_first
