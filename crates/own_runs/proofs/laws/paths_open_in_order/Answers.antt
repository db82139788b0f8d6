use Rattle.own_runs.proofs.HandshakeTrace.{comes_in_order}
use Rattle.own_runs.proofs.laws.paths_open_in_order.Goals as goal

pub returns : goal.returns
returns c = comes_in_order
