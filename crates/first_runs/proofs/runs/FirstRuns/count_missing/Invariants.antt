use Rattle.std.proofs.Common.{◌≡◌, ◌+◌, ◌-◌, ◌≤◌, max}
use Rattle.first_runs.specs.Runs.{missing}
use Rattle.first_runs.proofs.runs.FirstRuns.count_missing.Given as goal

abbrev pub invariant-loop-place : goal.invariant-loop-place
invariant-loop-place l = record {
  begun : l.from ≤ l.place;
  within : l.place ≤ max l.from l.to;
  few : l.count + (l.to - l.place) ≤ l.to - l.from;
  counted : l.count + missing l.self l.place (l.to - l.place) ≡ missing l.self l.from (l.to - l.from);
}

abbrev pub decreases-loop-place : goal.decreases-loop-place
decreases-loop-place l = l.to - l.place
