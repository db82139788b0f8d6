use Rattle.run_trace.proofs.RateCounts.{each_has_its_rates}
use Rattle.run_trace.proofs.laws.each_path_has_its_rates.Goals as goal

pub returns : goal.returns
returns c = each_has_its_rates
