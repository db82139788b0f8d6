use Rattle.std.proofs.Common.{◌-◌, ◌+◌, subst, arith}
use Rattle.path_core.specs.Octets.{octets}
use Rattle.world_core.specs.Cuts.{TurnsCut}
use Rattle.world_core.specs.Rounds.{TurnsFrom}
use Rattle.world_core.proofs.CutMade.{at_err, turns_cut_now, turns_cut_more}
use Rattle.world_core.proofs.RoundsMade.{turns_more, turns_over}
use Rattle.world_core.proofs.whole_turns.turns.Goals as goal

pub loop-actor-preserved : goal.loop-actor-preserved
loop-actor-preserved c = (
  c.in_ok-turn.ensures.stands,
  omega (arith, c.loop-actor-test.true),
  λ v h. c.loop-actor.invariant.2 v
      (turns_more octets (c.actors-actors.result - c.loop-actor.actor) (c.actors-actors.result - (c.loop-actor.actor + 1)) c.loop-actor.actor (c.loop-actor.actor + 1)
      c.loop-actor.world.state c.turn.new.world.state v (omega (arith, c.loop-actor-test.true)) (omega arith) c.in_ok-turn.ensures.ok h),
  λ v h. c.loop-actor.invariant.3 v
      (turns_cut_more octets (c.actors-actors.result - c.loop-actor.actor) (c.actors-actors.result - (c.loop-actor.actor + 1)) c.loop-actor.actor (c.loop-actor.actor + 1)
      c.loop-actor.world.state c.turn.new.world.state v (omega (arith, c.loop-actor-test.true)) (omega arith) c.in_ok-turn.ensures.ok h),
)

pub returns-clause-ok : goal.returns-clause-ok
returns-clause-ok c =
    subst (λ n. TurnsFrom octets n 0 c.args.world.now.state c.loop-actor.world.state) c.actors-actors.ensures
    (c.loop-actor.invariant.2 c.loop-actor.world.state
    (turns_over octets (c.actors-actors.result - c.loop-actor.actor) c.loop-actor.actor c.loop-actor.world.state (omega (arith, c.loop-actor-test.false))))

pub returns-in_err-turn-clause-cut : goal.returns-in_err-turn-clause-cut
returns-in_err-turn-clause-cut c = at_err c.from_residual.result
    (subst (λ n. TurnsCut octets n 0 c.args.world.now.state c.turn.new.world.state) c.actors-actors.ensures
    (c.loop-actor.invariant.3 c.turn.new.world.state
    (turns_cut_now octets (c.actors-actors.result - c.loop-actor.actor) c.loop-actor.actor c.loop-actor.world.state c.turn.new.world.state
    (omega (arith, c.loop-actor-test.true)) c.in_err-turn.ensures.cut)))
