use Rattle.whole_paths.proofs.SynsSoon.{each_syn_comes_soon}
use Rattle.whole_paths.proofs.opening_laws.each_syn_comes_soon.Goals as goal

pub returns : goal.returns
returns c = each_syn_comes_soon
