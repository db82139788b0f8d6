use Rattle.std.proofs.Common.{◌≡◌, ◌++◌, map, take, drop}
use Rattle.world_laws.specs.Worlds.{begins}
use Rattle.world_core.proofs.round_end.begin_each.Given as goal

-- the actors so far have begun, and the rest are as they were
abbrev pub invariant-loop-actor : goal.invariant-loop-actor
invariant-loop-actor l = l.crew ≡ map (begins l.stamp) (take l.actor-index l.initial.crew) ++ drop l.actor-index l.initial.crew
