use Rattle.actor_desk.proofs.Entered.{reassembly_entered}
use Rattle.actor_desk.proofs.books.Books.ask_reassembly.Goals as goal

pub invariant_of-self : goal.invariant_of-self
invariant_of-self c = record {
  send_a = c.self.invariant.send_a;
  send_b = c.self.invariant.send_b;
  reassembly_a = reassembly_entered c.self.inside.reassembly_a c.enter.new.self c.args.pass.now c.args.call.now c.enter.result c.self.invariant.reassembly_a c.requires c.enter.ensures.entry c.enter.ensures.err;
  reassembly_b = c.self.invariant.reassembly_b;
  control_a = c.self.invariant.control_a;
  control_b = c.self.invariant.control_b;
}

pub invariant_of-self-in-B : goal.invariant_of-self-in-B
invariant_of-self-in-B c = record {
  send_a = c.self.invariant.send_a;
  send_b = c.self.invariant.send_b;
  reassembly_a = c.self.invariant.reassembly_a;
  reassembly_b = reassembly_entered c.self.inside.reassembly_b c.enter-in-B.new.self c.args.pass.now c.args.call.now c.enter-in-B.result c.self.invariant.reassembly_b c.requires c.enter-in-B.ensures.entry c.enter-in-B.ensures.err;
  control_a = c.self.invariant.control_a;
  control_b = c.self.invariant.control_b;
}
