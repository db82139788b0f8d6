use Rattle.whole_paths.proofs.AskStages as stages
use Rattle.whole_paths.proofs.delivery_laws.open_asks_are_answered.Goals as goal

pub returns : goal.returns
returns c = stages.open_asks_are_answered
