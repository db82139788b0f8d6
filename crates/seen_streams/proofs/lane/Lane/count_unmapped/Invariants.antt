use Rattle.std.proofs.Common.{◌≡◌, ◌+◌, ◌-◌, ◌≤◌, max}
use Rattle.seen_streams.specs.Ends.{unmapped}
use Rattle.seen_streams.specs.Shows.{lane_of}
use Rattle.seen_streams.proofs.lane.Lane.count_unmapped.Given as goal

abbrev pub invariant-loop-position : goal.invariant-loop-position
invariant-loop-position l = record {
  begun : 1 ≤ l.position;
  within : l.position ≤ max 1 l.top;
  few : l.count ≤ l.position;
  counted : l.count + unmapped (lane_of l.self) l.position (l.top - l.position) ≡ unmapped (lane_of l.self) 1 (l.top - 1);
}

abbrev pub decreases-loop-position : goal.decreases-loop-position
decreases-loop-position l = l.top - l.position
