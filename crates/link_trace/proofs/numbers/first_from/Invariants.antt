use Rattle.std.proofs.Common.{◌≡◌, drop}
use Rattle.link_trace.specs.Numbers.{first_from}
use Rattle.link_trace.proofs.numbers.first_from.Given as goal

abbrev pub invariant-loop-step : goal.invariant-loop-step
invariant-loop-step l = first_from l.least (drop l.step-index l.steps) ≡ first_from l.least l.steps
