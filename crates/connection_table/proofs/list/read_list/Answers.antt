use Rattle.std.proofs.Common.{sym, ◌∙◌, map, Vec, Global}
use Rattle.connection_table.specs.declared.list.Listed.{Listed}
use Rattle.connection_table.specs.Lists.{as_names}
use Rattle.connection_table.proofs.ReadOn.{reads_some}
use Rattle.connection_table.proofs.list.read_list.Goals as goal

pub returns-clause-exact : goal.returns-clause-exact
returns-clause-exact c =
    reads_some (λ (v : Vec Listed Global). map as_names v.items) c.read_lines.result c.args.list.now (sym c.is_empty.ensures ∙ c.if-is_empty.false) c.read_lines.ensures.exact
