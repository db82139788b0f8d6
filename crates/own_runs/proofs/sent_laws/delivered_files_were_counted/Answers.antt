use Rattle.own_runs.proofs.Counted.{delivered_were_counted}
use Rattle.own_runs.proofs.sent_laws.delivered_files_were_counted.Goals as goal

pub returns : goal.returns
returns c = delivered_were_counted
