use Rattle.std.proofs.Common.{◌≡◌, ℕ, ◌-◌, ◌≤◌, max}
use Rattle.std.specs.Option.{option_or}
use Rattle.first_runs.specs.Runs.{told_at, told_by, cut_to}
use Rattle.first_runs.proofs.runs.FirstRuns.fill.Given as goal

abbrev pub invariant-loop-place : goal.invariant-loop-place
invariant-loop-place l = record {
  begun : l.run.from ≤ l.place;
  within : l.place ≤ max l.run.from l.run.to;
  told : (p : ℕ) → told_at l.self p ≡ option_or (told_at l.fn.self p) (told_by (cut_to l.run.from l.place l.run) p);
}

abbrev pub decreases-loop-place : goal.decreases-loop-place
decreases-loop-place l = l.run.to - l.place
