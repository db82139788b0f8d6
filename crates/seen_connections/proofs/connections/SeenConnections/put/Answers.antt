use Rattle.std.proofs.Common.{◌≡◌, ◌<◌, ◌∙◌, ap, arith}
use Rattle.std.specs.List.{slice_get}
use Rattle.seen_connections.specs.Connections.{SeenFlows}
use Rattle.seen_connections.proofs.Counts.{counted-set}
use Rattle.seen_connections.proofs.connections.SeenConnections.put.Goals as goal

pub invariant_of-self : goal.invariant_of-self
invariant_of-self c =
    let last : c.self.inside.last ≡ c.args.self.now.last = ap (λ (s : SeenFlows). s.last) c.self.view_is in
    let order : c.self.inside.last < c.args.packet = omega arith in
    counted-set c.self.inside.flows c.change.new.self c.self.inside.last c.args.packet c.args.found.now.index c.args.found.now.flow c.args.flow
    c.self.invariant order (ap (λ (s : SeenFlows). slice_get s.flows c.args.found.now.index) c.self.view_is ∙ c.requires.there)
    c.requires.next c.change.ensures
