use Rattle.mptcp_run.proofs.OneTurn.{step_made, end_made}
use Rattle.mptcp_run.proofs.replay.make_turn.Goals as goal

pub returns-in-Step-clause-turn : goal.returns-in-Step-clause-turn
returns-in-Step-clause-turn g c last under =
    step_made c.args.run.now.opening c.args.run.now.rounds c.args.turn c.in-Step.actor last c.args.line c.args.run.now c.make_step.new.world
    _ c.make_step.result c.in-Step.is under c.make_step.ensures.ok c.make_step.ensures.fault

pub returns-in-Round-clause-turn : goal.returns-in-Round-clause-turn
returns-in-Round-clause-turn g c last under =
    end_made c.args.run.now.opening c.args.run.now.rounds c.args.turn last c.args.run.now.world.state c.args.line c.end_round.new.run
    _ _ c.end_round.result c.in-Round.is (c.end_round.ensures.turn last under)
