use Rattle.std.proofs.Common.{◌≡◌, drop}
use Rattle.world_laws.specs.Worlds.{greatest}
use Rattle.world_core.proofs.round_end.greatest.Given as goal

abbrev pub invariant-loop-actor : goal.invariant-loop-actor
invariant-loop-actor l = greatest l.stamp (drop l.actor-index l.crew) ≡ greatest 0 l.crew
