use Rattle.path_core.proofs.Words.{sym, subst, ◌≤◌, Option, KeptMapping}
use Rattle.std.proofs.Common.{IfSome}
use Rattle.path_core.proofs.Mapped.{mapping_begins}
use Rattle.path_core.proofs.deliver.mapping_at.Goals as goal

pub returns-clause-begun : goal.returns-clause-begun
returns-clause-begun c =
    subst (λ (o : Option KeptMapping). IfSome o (λ kept. kept.pos ≤ c.args.edge)) (sym c.mapping_at.ensures)
    (mapping_begins c.args.mappings.now.mappings c.args.edge)
