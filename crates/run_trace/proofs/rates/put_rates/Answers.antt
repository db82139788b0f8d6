use Rattle.run_trace.proofs.RateRows.{rates_more}
use Rattle.run_trace.proofs.rates.put_rates.Goals as goal

pub loop-actor-preserved : goal.loop-actor-preserved
loop-actor-preserved c =
    rates_more (λ p. p.now) c.args.world.now.state.crew c.loop-actor.actor c.loop-actor.rates.items _ _ _ c.loop-actor.invariant c.in_ok-keep.ensures c.path.ensures
