use Rattle.std.proofs.Common.{◌≡◌, ◌≤◌, ◌*◌, ◌^◌, take, map, length}
use Rattle.std.specs.List.{sum}
use Rattle.world_laws.specs.Fine.{lists_of}
use Rattle.mptcp_run.proofs.report.steps_made.Given as goal

-- a list is shorter than 2^64
abbrev pub invariant-loop-actor : goal.invariant-loop-actor
invariant-loop-actor l = record {
  steps : l.steps ≡ sum (map length (take l.actor (lists_of l.world.state.crew)));
  few : l.actor ≤ length l.world.state.crew;
  small : l.steps ≤ l.actor * 2 ^ 64;
}
