use Rattle.actor_desk.proofs.Entered.{send_entered}
use Rattle.actor_desk.proofs.books.Books.ask_send.Goals as goal

pub invariant_of-self : goal.invariant_of-self
invariant_of-self c = record {
  send_a = send_entered c.self.inside.send_a c.enter.new.self c.args.pass.now c.args.call.now c.enter.result c.self.invariant.send_a c.enter.ensures.entry c.enter.ensures.err;
  send_b = c.self.invariant.send_b;
  reassembly_a = c.self.invariant.reassembly_a;
  reassembly_b = c.self.invariant.reassembly_b;
  control_a = c.self.invariant.control_a;
  control_b = c.self.invariant.control_b;
}

pub invariant_of-self-in-B : goal.invariant_of-self-in-B
invariant_of-self-in-B c = record {
  send_a = c.self.invariant.send_a;
  send_b = send_entered c.self.inside.send_b c.enter-in-B.new.self c.args.pass.now c.args.call.now c.enter-in-B.result c.self.invariant.send_b c.enter-in-B.ensures.entry c.enter-in-B.ensures.err;
  reassembly_a = c.self.invariant.reassembly_a;
  reassembly_b = c.self.invariant.reassembly_b;
  control_a = c.self.invariant.control_a;
  control_b = c.self.invariant.control_b;
}
