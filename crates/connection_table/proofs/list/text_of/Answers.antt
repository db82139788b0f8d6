use Rattle.connection_table.proofs.Names.{name_is_text}
use Rattle.connection_table.proofs.list.text_of.Goals as goal

pub unreachable-requires : goal.unreachable-requires
unreachable-requires c = c.in-Err.ensures.cases.0 (name_is_text c.args.name.now c.requires)
