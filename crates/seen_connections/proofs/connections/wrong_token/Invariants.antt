use Rattle.std.proofs.Common.{◌≡◌, drop}
use Rattle.seen_connections.specs.Connections.{wrong_token}
use Rattle.seen_connections.proofs.connections.wrong_token.Given as goal

abbrev pub invariant-loop-index : goal.invariant-loop-index
invariant-loop-index l = wrong_token l.index (drop l.index l.connections) l.packet l.join ≡ wrong_token 0 l.connections l.packet l.join
