use Rattle.own_runs.proofs.WholeSays.{each_says, ends_are_told}
use Rattle.own_runs.proofs.laws.whole_runs_say_what_they_bear.Goals as goal

pub returns-clause-bears : goal.returns-clause-bears
returns-clause-bears c = each_says

pub returns-clause-ends : goal.returns-clause-ends
returns-clause-ends c = ends_are_told
