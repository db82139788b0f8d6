use Rattle.std.proofs.Common.{◌∙◌, ap, ◌+◌, Err}
use Rattle.connection_table.specs.Tables.{key_token}
use Rattle.connection_table.proofs.OwnTokens.{none_held}
use Rattle.connection_table.proofs.loading.admit.Goals as goal

pub returns-in-Err-SameToken-clause-fault : goal.returns-in-Err-SameToken-clause-fault
returns-in-Err-SameToken-clause-fault c = (
  ap (λ n. n + 1) c.from.ensures,
  ((c.admit.ensures.same c.in-Err-SameToken.holder).0 (c.in-Err-SameToken.is ∙ ap Err c.in-Err-SameToken.field-0-is)).1,
)

pub returns-in-Ok-clause-new : goal.returns-in-Ok-clause-new
returns-in-Ok-clause-new c =
    none_held c.admit.result _ (key_token c.args.input.now.script) c.args.table.now c.requires.few c.admit.ensures.same c.in-Ok.is
