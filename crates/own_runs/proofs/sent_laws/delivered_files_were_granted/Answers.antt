use Rattle.own_runs.proofs.Grants.{delivered_were_granted}
use Rattle.own_runs.proofs.sent_laws.delivered_files_were_granted.Goals as goal

pub returns : goal.returns
returns c = delivered_were_granted
