use Rattle.std.proofs.Common.{◌≡◌, ◌≤◌, take, map, length}
use Rattle.world_laws.specs.Fine.{lists_of}
use Rattle.world_core.proofs.weaving.made_by.Given as goal

abbrev pub invariant-loop-actor : goal.invariant-loop-actor
invariant-loop-actor l = record { made : l.made.items ≡ map length (take l.actor (lists_of l.world.state.crew)); few : l.actor ≤ length l.world.state.crew }
