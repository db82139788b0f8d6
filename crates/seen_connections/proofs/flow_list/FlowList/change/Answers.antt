use Rattle.std.proofs.Common.{◌∙◌, sym, ap}
use Rattle.std.specs.List.{slice_get}
use Rattle.seen_connections.proofs.FlowsBetween.{goes-set}
use Rattle.seen_connections.proofs.flow_list.FlowList.change.Goals as goal

pub invariant_of-self : goal.invariant_of-self
invariant_of-self c = λ ends.
    c.self.invariant ends
    ∙ sym (goes-set ends c.self.inside.flows.items c.args.found.now.index c.args.found.now.flow c.args.flow
    (ap (λ flows. slice_get flows c.args.found.now.index) c.self.view_is ∙ c.requires.there) c.requires.ends)
