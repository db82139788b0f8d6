use Rattle.std.proofs.Common.{◌≡◌, ◌++◌, drop}
use Rattle.run_trace.specs.Rates.{rates_of}
use Rattle.run_trace.proofs.rates.put_rates.Given as goal

abbrev pub invariant-loop-actor : goal.invariant-loop-actor
invariant-loop-actor l =
    l.rates.items ++ rates_of (drop l.actor l.world.state.crew) ≡ l.initial.rates.items ++ rates_of l.world.state.crew
