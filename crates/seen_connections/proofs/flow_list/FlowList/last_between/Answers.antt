use Rattle.std.proofs.Common.{◌∙◌, ap}
use Rattle.std.specs.HashMap.{get_by}
use Rattle.seen_connections.specs.SameEnds.{same_ends, turned}
use Rattle.seen_connections.specs.Flows.{is_between, last_that}
use Rattle.seen_connections.proofs.FlowsBetween.{between-is}
use Rattle.seen_connections.proofs.flow_list.FlowList.last_between.Goals as goal

pub returns : goal.returns
returns c =
    c.later.ensures
    ∙ between-is c.args.ends.now c.self.inside.flows.items _ _ (c.copied-one.ensures ∙ c.get.ensures.value ∙ c.self.invariant c.args.ends.now)
    (c.copied-other.ensures ∙ c.get-2.ensures.value ∙ ap (λ other. get_by (same_ends other) c.self.inside.last) c.turned.ensures ∙ c.self.invariant (turned c.args.ends.now))
    ∙ ap (last_that (is_between c.args.ends.now) 0) c.self.view_is
