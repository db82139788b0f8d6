use Rattle.std.proofs.Common.{◌<◌, ◌∙◌, ap, length, get_or, set, arith}
use Rattle.std.proofs.lemmas.List.{get_or_default}
use Rattle.std.proofs.lemmas.List.Edits.{map_over_more}
use Rattle.world_laws.specs.Worlds.{begins}
use Rattle.world_core.proofs.round_end.begin_each.Goals as goal

pub loop-actor-preserved : goal.loop-actor-preserved
loop-actor-preserved c =
    let i = c.loop-actor.actor-index in
    let inside : i < length c.loop-actor.crew = omega (arith, c.loop-actor.auto.crew, c.loop-actor-test.true) in
    let item = get_or c.loop-actor.crew i c.actor-item.result in
    ap (set c.loop-actor.crew i) c.begin.ensures
    ∙ map_over_more (begins c.args.stamp) c.args.crew.now c.loop-actor.crew i item c.loop-actor-test.true c.loop-actor.invariant
    (get_or_default c.loop-actor.crew i c.actor-item.result item inside)
