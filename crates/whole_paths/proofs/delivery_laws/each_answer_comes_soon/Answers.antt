use Rattle.whole_paths.proofs.ToldSoon as told
use Rattle.whole_paths.proofs.delivery_laws.each_answer_comes_soon.Goals as goal

pub returns : goal.returns
returns c = told.each_answer_comes_soon
