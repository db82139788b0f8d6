use Rattle.std.proofs.Common.{refl, ap, length, List, arith}
use Rattle.actor_desk.specs.declared.ask.Note.{Note}
use Rattle.mptcp_run.proofs.Gathering.{steps_more}
use Rattle.mptcp_run.proofs.report.steps_made.Goals as goal

pub loop-actor-preserved : goal.loop-actor-preserved
loop-actor-preserved c =
    let within = c.loop-actor-test.true in let many = c.actors-actor-end.ensures in let inv = c.loop-actor.invariant in
    record {
      steps = steps_more c.args.world.now.state.crew c.loop-actor.actor (length c.notes.result.now) c.loop-actor.steps _
          (omega (arith, within, many)) (ap (λ (notes : List Note). length notes) c.notes.ensures) inv.steps refl;
      few = omega (arith, within, many);
      small = omega (arith, within, inv.small);
    }
