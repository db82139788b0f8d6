use Rattle.own_runs.proofs.Going.{delivered_were_sent}
use Rattle.own_runs.proofs.sent_laws.delivered_files_were_sent.Goals as goal

pub returns : goal.returns
returns c = delivered_were_sent
