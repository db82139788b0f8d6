use Rattle.std.proofs.Common.{◌≡◌, ◌+◌, ◌-◌, ◌≤◌}
use Rattle.first_runs.specs.Runs.{told_at}
use Rattle.judge_rules.specs.Clashes.{first_clash}
use Rattle.judge_rules.proofs.clashes.first_clash.Given as goal

abbrev pub invariant-loop-position : goal.invariant-loop-position
invariant-loop-position l = record {
  low : l.from ≤ l.position;
  left : first_clash (told_at l.places) l.position (l.place + (l.position - l.from)) (l.to - l.position)
      ≡ first_clash (told_at l.places) l.from l.place (l.to - l.from);
}

abbrev pub decreases-loop-position : goal.decreases-loop-position
decreases-loop-position l = l.to - l.position
