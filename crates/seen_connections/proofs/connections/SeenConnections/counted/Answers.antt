use Rattle.std.proofs.Common.{◌≡◌, ◌≤◌, ◌∙◌, sym, ap, subst, arith}
use Rattle.std.specs.List.{slice_get}
use Rattle.seen_connections.specs.Connections.{SeenFlows, IsNext}
use Rattle.seen_connections.proofs.Counts.{packets-le, counts-at, counted-next}
use Rattle.seen_connections.proofs.connections.SeenConnections.counted.Goals as goal

pub counted-requires-clause-packets : goal.counted-requires-clause-packets
counted-requires-clause-packets c =
    let last : c.self.inside.last ≡ c.args.self.now.last = ap (λ (s : SeenFlows). s.last) c.self.view_is in
    let few : c.args.found.now.flow.packets ≤ c.self.inside.last =
    packets-le c.self.inside.flows c.self.inside.last c.args.found.now.index c.args.found.now.flow c.self.invariant
    (ap (λ (s : SeenFlows). slice_get s.flows c.args.found.now.index) c.self.view_is ∙ c.requires.there) in
    omega arith

pub counted-requires-clause-cut : goal.counted-requires-clause-cut
counted-requires-clause-cut c =
    (counts-at c.self.inside.flows c.self.inside.last c.args.found.now.index c.args.found.now.flow c.self.invariant
    (ap (λ (s : SeenFlows). slice_get s.flows c.args.found.now.index) c.self.view_is ∙ c.requires.there)).cut

pub counted-requires-clause-wrong : goal.counted-requires-clause-wrong
counted-requires-clause-wrong c =
    (counts-at c.self.inside.flows c.self.inside.last c.args.found.now.index c.args.found.now.flow c.self.invariant
    (ap (λ (s : SeenFlows). slice_get s.flows c.args.found.now.index) c.self.view_is ∙ c.requires.there)).wrong

pub returns-clause-next : goal.returns-clause-next
returns-clause-next c =
    subst (IsNext c.args.found.now.flow) (sym c.counted.ensures)
    (counted-next c.args.is_cut c.args.is_good c.args.found.now.flow
    (counts-at c.self.inside.flows c.self.inside.last c.args.found.now.index c.args.found.now.flow c.self.invariant
    (ap (λ (s : SeenFlows). slice_get s.flows c.args.found.now.index) c.self.view_is ∙ c.requires.there)))
