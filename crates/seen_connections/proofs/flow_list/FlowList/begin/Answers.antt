use Rattle.std.proofs.Common.{◌≡◌, ◌∙◌, ap, ◌++◌, ◌∷◌, [], length, rules}
use Rattle.seen_connections.proofs.FlowsBetween.{begun-told}
use Rattle.seen_connections.proofs.flow_list.FlowList.begin.Goals as goal

pub invariant_of-self-2 : goal.invariant_of-self-2
invariant_of-self-2 c = λ ends.
    let number : c.len-index.result ≡ length c.self.inside.flows.items = search rules in
    begun-told ends c.self.inside.flows.items c.push.new.self.items c.args.flow c.len-index.result _ _ (c.in_ok-insert.ensures.updates.0 ends)
    (c.self.invariant ends) number (c.in-Ok.ensures.items ∙ ap (λ flows. flows ++ c.args.flow ∷ []) c.reserve.ensures.items)
