use Rattle.std.proofs.Common.{ap, length, List, arith}
use Rattle.actor_desk.specs.declared.ask.Note.{Note}
use Rattle.world_core.proofs.Gathering.{made_more}
use Rattle.world_core.proofs.weaving.made_by.Goals as goal

pub loop-actor-preserved : goal.loop-actor-preserved
loop-actor-preserved c =
    let within = c.loop-actor-test.true in let many = c.actors-actor-end.ensures in
    record {
      made = made_more c.args.world.now.state.crew c.loop-actor.actor (length c.notes.result.now) c.loop-actor.made.items c.push.new.self.items
          (omega (arith, within, many)) (ap (λ (notes : List Note). length notes) c.notes.ensures) c.loop-actor.invariant.made c.in_ok-push.ensures.items;
      few = omega (arith, within, many);
    }
