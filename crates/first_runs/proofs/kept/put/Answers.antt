use Rattle.std.proofs.Common.{nat_le, List, ap, ◌∙◌, subst, sym, arith}
use Rattle.std.specs.List.{prefix_len}
use Rattle.first_runs.specs.declared.run.Run.{Run}
use Rattle.first_runs.specs.Runs.{AreInOrder}
use Rattle.first_runs.proofs.InOrder.{in_order-insert, told_with}
use Rattle.first_runs.proofs.kept.put.Goals as goal

pub returns-clause-order : goal.returns-clause-order
returns-clause-order c =
    let here = c.ended_by-index.ensures.value ∙ ap (prefix_len (λ (r : Run). nat_le r.to c.args.run.from)) c.deref.ensures.value in
    subst (λ (runs : List Run). AreInOrder 0 runs) (sym c.in_ok-insert.ensures.items)
    (in_order-insert 0 c.ended_by-index.result c.args.runs.now.items c.args.run c.requires.order here (omega arith) c.requires.some c.requires.fits c.requires.free)

pub returns-clause-ok : goal.returns-clause-ok
returns-clause-ok c =
    rw c.in_ok-insert.ensures.items (told_with c.ended_by-index.result c.args.runs.now.items c.args.run (omega arith) c.requires.free)
