use Rattle.outside_kit.specs.declared.port.Port.TheVariants.{ReadByA, ReadByB}
use Rattle.message_pipe.proofs.CallsBelow.{stand_bind_a, stand_bind_b, stand_log_bind}
use Rattle.message_pipe.proofs.PortsStand.{stands_same, a_is_not_b, a_is_not_log, b_is_not_a, b_is_not_log}
use Rattle.message_pipe.proofs.line_outside.LineOutsideOutside.bind.Goals as goal

pub invariant_of-self : goal.invariant_of-self
invariant_of-self g c =
    let made = c.bind_for-told.ensures in (
      made.within,
      c.self.invariant.1,
      record {
        read_by_a = made.stands _ _ c.self.invariant.2.read_by_a;
        read_by_b = stands_same _ _ _ _ _ _ _ (made.stays.other_ports ReadByB b_is_not_a) (made.stays.other_counts ReadByB b_is_not_a) c.self.invariant.2.read_by_b;
      },
      rw (c.then-self-inside.ensures, c.is_ok-ok.ensures.value, c.in-ReadByA.is) (stand_bind_a _ _ _ _ _ _ c.self.invariant.3 c.bind_for-told.result _ _ made.calls made.fresh made.unrefused),
    )

pub invariant_of-self-in-ReadByB : goal.invariant_of-self-in-ReadByB
invariant_of-self-in-ReadByB g c =
    let made = c.bind_for-told-in-ReadByB.ensures in (
      c.self.invariant.0,
      made.within,
      record {
        read_by_a = stands_same _ _ _ _ _ _ _ (made.stays.other_ports ReadByA a_is_not_b) (made.stays.other_counts ReadByA a_is_not_b) c.self.invariant.2.read_by_a;
        read_by_b = made.stands _ _ c.self.invariant.2.read_by_b;
      },
      rw (c.then-self-inside-in-ReadByB.ensures, c.is_ok-ok-in-ReadByB.ensures.value, c.in-ReadByB.is) (stand_bind_b _ _ _ _ _ _ c.self.invariant.3 c.bind_for-told-in-ReadByB.result _ _ made.calls made.fresh made.unrefused),
    )

pub invariant_of-self-in-Log : goal.invariant_of-self-in-Log
invariant_of-self-in-Log g c =
    let made = c.bind-told.ensures in (
      c.self.invariant.0,
      c.self.invariant.1,
      record {
        read_by_a = stands_same _ _ _ _ _ _ _ (made.other_ports ReadByA a_is_not_log) (made.other_counts ReadByA a_is_not_log) c.self.invariant.2.read_by_a;
        read_by_b = stands_same _ _ _ _ _ _ _ (made.other_ports ReadByB b_is_not_log) (made.other_counts ReadByB b_is_not_log) c.self.invariant.2.read_by_b;
      },
      rw (c.then-self-inside-in-Log.ensures, c.is_ok-ok-in-Log.ensures.value, c.in-Log.is) (stand_log_bind _ _ _ _ _ _ c.self.invariant.3 c.args.name.now _ made.recorded),
    )
