use Rattle.whole_paths.proofs.FewLossesDeliver as few
use Rattle.whole_paths.proofs.many_laws.few_losses_end_no_first.Goals as goal

pub returns : goal.returns
returns c = few.few_losses_end_no_first
