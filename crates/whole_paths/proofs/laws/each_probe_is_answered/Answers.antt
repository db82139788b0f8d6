use Rattle.whole_paths.proofs.Probes as probes
use Rattle.whole_paths.proofs.laws.each_probe_is_answered.Goals as goal

pub returns : goal.returns
returns c = probes.each_probe_is_answered
