use Rattle.std.proofs.Common.{◌≡◌, drop, false}
use Rattle.world_core.specs.Logged.{all_turns}
use Rattle.run_trace.proofs.Gathering.{Gathers}
use Rattle.run_trace.proofs.making.gather.Given as goal

abbrev pub invariant-loop-turn : goal.invariant-loop-turn
invariant-loop-turn g l = record {
  stands : l.world.failed ≡ false;
  place : l.place ≡ l.turn-index;
  gathers : Gathers (all_turns l.order) (all_turns (drop l.turn-index l.order)) l.fn.world.state l.world.state l.gathered.trace.items l.gathered.measured.items l.place;
}
