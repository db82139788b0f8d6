use Rattle.whole_paths.proofs.Mends as records
use Rattle.whole_paths.proofs.debt_laws.what_runs_out_is_mended.Goals as goal

pub returns : goal.returns
returns c = records.what_runs_out_is_mended
