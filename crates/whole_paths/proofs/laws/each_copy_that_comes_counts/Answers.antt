use Rattle.whole_paths.proofs.ComingCopies as coming
use Rattle.whole_paths.proofs.laws.each_copy_that_comes_counts.Goals as goal

pub returns : goal.returns
returns c = coming.each_copy_that_comes_counts
