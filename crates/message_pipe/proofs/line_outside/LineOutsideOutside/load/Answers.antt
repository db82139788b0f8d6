use Rattle.outside_kit.specs.declared.port.Port.TheVariants.{ReadByA, ReadByB}
use Rattle.message_pipe.proofs.CallsBelow.{stand_load}
use Rattle.message_pipe.proofs.PortsStand.{stands_same}
use Rattle.message_pipe.proofs.line_outside.LineOutsideOutside.load.Goals as goal

pub invariant_of-self : goal.invariant_of-self
invariant_of-self g c =
    let made = c.load_from-told.ensures in (
      c.self.invariant.0,
      c.self.invariant.1,
      record {
        read_by_a = stands_same _ _ _ _ _ _ _ (made.same_ports ReadByA) (made.same_counts ReadByA) c.self.invariant.2.read_by_a;
        read_by_b = stands_same _ _ _ _ _ _ _ (made.same_ports ReadByB) (made.same_counts ReadByB) c.self.invariant.2.read_by_b;
      },
      rw (c.then-self-inside.ensures, c.is_ok-ok.ensures.value) (stand_load _ _ _ _ _ _ c.self.invariant.3 c.args.name.now _ made.calls),
    )
