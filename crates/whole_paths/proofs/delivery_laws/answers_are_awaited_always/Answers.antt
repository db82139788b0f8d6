use Rattle.whole_paths.proofs.AnswerWaits as waits
use Rattle.whole_paths.proofs.delivery_laws.answers_are_awaited_always.Goals as goal

pub returns : goal.returns
returns c = waits.answers_are_awaited
