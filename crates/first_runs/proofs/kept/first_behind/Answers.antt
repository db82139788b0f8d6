use Rattle.first_runs.proofs.InOrder.{first_behind_is, none_behind}
use Rattle.first_runs.proofs.kept.first_behind.Goals as goal

pub returns-in-Some-clause-some : goal.returns-in-Some-clause-some
returns-in-Some-clause-some c =
    let found = c.in-Some.ensures.lookup in
    first_behind_is 0 c.args.place c.ended_by-index.result c.args.runs.now c.in-Some.run'.now c.requires c.ended_by-index.ensures.value found.3.0 found.1

pub returns-in-None-clause-none : goal.returns-in-None-clause-none
returns-in-None-clause-none c =
    none_behind c.args.place c.ended_by-index.result c.args.runs.now c.ended_by-index.ensures.value c.in-None.ensures.lookup.3
