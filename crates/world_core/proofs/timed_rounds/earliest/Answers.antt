use Rattle.std.proofs.Common.{arith}
use Rattle.world_core.proofs.TimedRounds.{first_is_none}
use Rattle.world_core.proofs.timed_rounds.earliest.Goals as goal

pub returns-clause-none : goal.returns-clause-none
returns-clause-none c = λ none.
    let past = c.loop-actor-test.false in let few = c.loop-actor.invariant.few in let many = c.actors-actor-end.ensures in
    first_is_none c.args.world.now.state.crew c.loop-actor.actor c.loop-actor.step (omega (arith, past, few, many)) c.loop-actor.invariant.first none
