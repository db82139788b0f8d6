use Rattle.std.proofs.Common.{◌≤◌, arith}
use Rattle.pace.specs.Going.{Reason}
use Rattle.pace.proofs.Lists.{if_some_map}
use Rattle.pace.proofs.laws.no_timer_runs_out.Goals as goal

pub returns : goal.returns
returns c k ranges s t p w h =
    if_some_map (λ x. Reason k w × (t ≤ x)) (λ x. w.until ≤ x) w.timer
    (λ x runs. omega (arith, runs.1, h.round.timers)) h.timer.late
