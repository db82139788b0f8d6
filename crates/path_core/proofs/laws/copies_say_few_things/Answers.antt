use Rattle.path_core.proofs.FewThings.{heard_few, few_priorities}
use Rattle.path_core.proofs.laws.copies_say_few_things.Goals as goal

pub returns-clause-few : goal.returns-clause-few
returns-clause-few c = heard_few

pub returns-clause-priorities : goal.returns-clause-priorities
returns-clause-priorities c = few_priorities
