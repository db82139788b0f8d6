use Rattle.std.proofs.Common.{sym, ap, ◌∙◌}
use Rattle.subflow_recv.specs.Receiving.{without_held}
use Rattle.subflow_recv.proofs.Window.{outside_changes_nothing}
use Rattle.subflow_recv.proofs.receive.SubflowRecv.accept.Goals as goal

pub returns-then-is_outside-clause-after : goal.returns-then-is_outside-clause-after
returns-then-is_outside-clause-after c =
    rw c.drop_held.ensures
    (ap without_held c.self.view_is ∙ sym (outside_changes_nothing c.args.pos c.args.payload.now c.args.self.now (sym c.is_outside.ensures ∙ c.if-is_outside.true)))
