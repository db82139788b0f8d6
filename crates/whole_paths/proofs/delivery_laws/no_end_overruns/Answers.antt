use Rattle.whole_paths.proofs.Overruns as overruns
use Rattle.whole_paths.proofs.delivery_laws.no_end_overruns.Goals as goal

pub returns : goal.returns
returns c = overruns.each_end_stays_within
