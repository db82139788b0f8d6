use Rattle.whole_paths.proofs.Syns as syns
use Rattle.whole_paths.proofs.laws.each_syn_comes.Goals as goal

pub returns : goal.returns
returns c = syns.each_syn_comes
