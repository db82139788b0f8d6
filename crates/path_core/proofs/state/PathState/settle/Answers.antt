use Rattle.path_core.proofs.Words.{sym, ap, ◌∙◌, is_none}
use Rattle.path_core.proofs.FirstDuty.{passes, settled_stays}
use Rattle.path_core.proofs.state.PathState.settle.Goals as goal

pub loop-duty-preserved : goal.loop-duty-preserved
loop-duty-preserved c =
    rw (c.pass.ensures, c.done.ensures) (passes c.in-Some.duty c.loop-duty.self (sym c.passable.ensures ∙ c.in-Some.is) ∙ c.loop-duty.invariant)

pub returns-clause-value : goal.returns-clause-value
returns-clause-value c = sym (settled_stays c.loop-duty.self (sym c.passable.ensures ∙ c.in_default.is)) ∙ c.loop-duty.invariant

pub returns-clause-rests : goal.returns-clause-rests
returns-clause-rests c = ap is_none (sym c.passable.ensures ∙ c.in_default.is)
