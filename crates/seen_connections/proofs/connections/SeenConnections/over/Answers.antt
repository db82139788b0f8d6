use Rattle.std.proofs.Common.{◌∙◌, refl, ap, arith}
use Rattle.std.specs.List.{slice_get}
use Rattle.seen_connections.specs.Connections.{SeenFlows}
use Rattle.seen_connections.proofs.Counts.{counts-at}
use Rattle.seen_connections.proofs.connections.SeenConnections.over.Goals as goal

pub returns-clause-next : goal.returns-clause-next
returns-clause-next c =
    let has = counts-at c.self.inside.flows c.self.inside.last c.args.found.now.index c.args.found.now.flow c.self.invariant
    (ap (λ (s : SeenFlows). slice_get s.flows c.args.found.now.index) c.self.view_is ∙ c.requires) in
    record { ends = refl; packets = omega arith; counts = record { cut = has.cut; wrong = has.wrong } }
