use Rattle.std.proofs.Common.{◌≡◌, subst}
use Rattle.std.specs.Prelude.{IfOk, string_bytes}
use Rattle.connection_table.specs.Tables.{entry_at}
use Rattle.connection_table.proofs.LinesPut.{line_is}
use Rattle.connection_table.proofs.lines.line.Goals as goal

pub returns : goal.returns
returns c =
    subst (λ line. IfOk c.line_of.result (λ text. string_bytes text ≡ line))
    (line_is c.args.connection (entry_at c.args.connection c.args.table.now) c.world.result.now c.world.ensures.world) c.line_of.ensures
