use Rattle.std.proofs.Common.{◌-◌, ap, get_or, arith}
use Rattle.world_core.proofs.Gathering.{woven_more}
use Rattle.world_core.proofs.weaving.woven.Goals as goal

pub loop-actor-preserved : goal.loop-actor-preserved
loop-actor-preserved c = record {
  few = let few = c.loop-actor.invariant.few in omega (arith, few);
  order = woven_more c.args.made.now c.args.world.now.state.crew c.loop-actor.actor (c.loop-actor.actor - 1) 0 (get_or c.args.made.now c.from.result 0) c.notes.result.now c.notes_from.result.now _ _
      (let some = c.loop-actor-test.true in omega (arith, some)) c.loop-actor.invariant.few c.requires (ap (λ n. get_or c.args.made.now n 0) c.from.ensures) c.notes.ensures c.notes_from.ensures c.in_ok-put_notes.ensures.order
      c.loop-actor.invariant.order;
  sorted = c.in_ok-put_notes.ensures.sorted;
}
