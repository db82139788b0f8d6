use Rattle.std.proofs.Common.{◌≢◌, ℕ, ◌-◌, ◌<◌, ◌≤◌, None}
use Rattle.first_runs.specs.Runs.{told_at}
use Rattle.first_runs.proofs.runs.FirstRuns.first_gap.Given as goal

abbrev pub invariant-loop-begin : goal.invariant-loop-begin
invariant-loop-begin l = record {
  begun : l.fn.from ≤ l.begin;
  before : (p : ℕ) → l.fn.from ≤ p → p < l.begin → told_at l.self p ≢ None;
}

abbrev pub decreases-loop-begin : goal.decreases-loop-begin
decreases-loop-begin l = l.to - l.begin
