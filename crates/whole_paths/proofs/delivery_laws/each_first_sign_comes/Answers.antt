use Rattle.whole_paths.proofs.FirstSigns as signs
use Rattle.whole_paths.proofs.delivery_laws.each_first_sign_comes.Goals as goal

pub returns : goal.returns
returns c = signs.each_first_sign_comes
