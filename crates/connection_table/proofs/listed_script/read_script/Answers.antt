use Rattle.std.proofs.Common.{sym, ◌∙◌}
use Rattle.connection_table.proofs.Unaltered.{none_leaves}
use Rattle.connection_table.proofs.listed_script.read_script.Goals as goal

pub returns-in-None-clause-leaves : goal.returns-in-None-clause-leaves
returns-in-None-clause-leaves c = none_leaves c.args.text.now c.in-Ok-parse.script (sym c.in-Ok.ensures ∙ c.in-None.is) c.in-Ok-parse.ensures.exact
