use Rattle.std.proofs.Common.{find, sym, ◌∙◌}
use Rattle.subflow_send.specs.Rules.{is_unsent}
use Rattle.subflow_tcp.proofs.Unsent.{unsent_none, none_found}
use Rattle.subflow_tcp.proofs.end.Subflow.unsent_sent.Goals as goal

pub returns-else-is_some : goal.returns-else-is_some
returns-else-is_some c =
    unsent_none c.args.now c.args.self.now
    (rw (← c.self.view_is) (none_found c.due.result (find is_unsent c.self.inside.send.records) c.due.ensures.value (sym c.is_some.ensures ∙ c.if-is_some.false)))
