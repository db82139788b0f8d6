use Rattle.std.proofs.Common.{sym, ◌∙◌}
use Rattle.subflow_worker.proofs.Refused.{none_refused}
use Rattle.subflow_worker.proofs.refusing.outcome_of.Goals as goal

pub returns-clause-done : goal.returns-clause-done
returns-clause-done g c =
    none_refused c.args.crew.now (sym c.one_lacks_memory.ensures ∙ c.if-one_lacks_memory.false) (sym c.one_lacks_stamps.ensures ∙ c.if-one_lacks_stamps.false)
