use Rattle.whole_paths.proofs.Awaited as awaited
use Rattle.whole_paths.proofs.laws.each_window_comes.Goals as goal

pub returns : goal.returns
returns c = awaited.each_window_comes
