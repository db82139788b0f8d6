use Rattle.own_runs.proofs.ConnectionSeen.{is_one_connection}
use Rattle.own_runs.proofs.laws.own_runs_are_one_connection.Goals as goal

pub returns : goal.returns
returns c = is_one_connection
