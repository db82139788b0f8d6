use Rattle.own_runs.proofs.AllKept.{delivered_are_kept, reports_are_kept, whole_runs_end_well}
use Rattle.own_runs.proofs.laws.whole_runs_end_well.Goals as goal

pub returns-clause-ends : goal.returns-clause-ends
returns-clause-ends c = whole_runs_end_well

pub returns-clause-delivered : goal.returns-clause-delivered
returns-clause-delivered c = delivered_are_kept

pub returns-clause-lines : goal.returns-clause-lines
returns-clause-lines c = reports_are_kept
