use Rattle.std.proofs.Common.{◌≡◌, ◌≤◌, drop, map, length}
use Rattle.world_laws.specs.Fine.{lists_of}
use Rattle.actor_desk.specs.Order.{AreInOrder}
use Rattle.world_core.specs.Weaving.{since}
use Rattle.world_core.proofs.weaving.woven.Given as goal

abbrev pub invariant-loop-actor : goal.invariant-loop-actor
invariant-loop-actor l = record {
  few : l.actor ≤ length l.world.state.crew;
  order : map (λ note. note.now) l.order.items ≡ since (drop l.actor l.made) (drop l.actor (lists_of l.world.state.crew));
  sorted : AreInOrder (map (λ note. note.now) l.order.items);
}

abbrev pub decreases-loop-actor : goal.decreases-loop-actor
decreases-loop-actor l = l.actor
