use Rattle.whole_paths.proofs.BriefRuns.{few_steps_are_brief}
use Rattle.whole_paths.proofs.FewTexts.{few_texts_finish, few_texts_go_on}
use Rattle.whole_paths.proofs.patience_laws.few_texts_deliver.Goals as goal

pub returns-clause-finish : goal.returns-clause-finish
returns-clause-finish c = few_texts_finish

pub returns-clause-go_on : goal.returns-clause-go_on
returns-clause-go_on c = few_texts_go_on

pub returns-clause-brief : goal.returns-clause-brief
returns-clause-brief c = few_steps_are_brief
