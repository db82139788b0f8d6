use Rattle.own_runs.proofs.KeysSaid.{each_shows}
use Rattle.own_runs.proofs.KeyTrace.{each_behind}
use Rattle.own_runs.proofs.laws.the_opener_shows_both_keys.Goals as goal

pub returns-clause-shows : goal.returns-clause-shows
returns-clause-shows c = each_shows

pub returns-clause-behind : goal.returns-clause-behind
returns-clause-behind c = each_behind
