use Rattle.std.proofs.Common.{refl}
use Rattle.judge_rules.specs.declared.finding.Rule.TheVariants.{DataAck}
use Rattle.own_runs.proofs.AckRuns.{no_whole_run_breaks}
use Rattle.own_runs.proofs.TimeRuns.{timed}
use Rattle.own_runs.proofs.laws.whole_runs_break_no_rule.Goals as goal

pub returns : goal.returns
returns c = no_whole_run_breaks timed DataAck refl
