use Rattle.ruled_desk.proofs.Words.{sym, ◌∙◌}
use Rattle.ruled_desk.proofs.Ridden.{none_refused}
use Rattle.ruled_desk.proofs.refusing.outcome_of.Goals as goal

pub returns-clause-done : goal.returns-clause-done
returns-clause-done g c =
    none_refused c.args.riders.now (sym c.one_lacks_memory.ensures ∙ c.if-one_lacks_memory.false) (sym c.one_lacks_stamps.ensures ∙ c.if-one_lacks_stamps.false)
