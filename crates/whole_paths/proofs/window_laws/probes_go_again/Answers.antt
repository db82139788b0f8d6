use Rattle.whole_paths.proofs.ProbeWaits.{probes_are_awaited, probes_go_again}
use Rattle.whole_paths.proofs.window_laws.probes_go_again.Goals as goal

pub returns-clause-again : goal.returns-clause-again
returns-clause-again c = probes_go_again

pub returns-clause-awaited : goal.returns-clause-awaited
returns-clause-awaited c = probes_are_awaited
