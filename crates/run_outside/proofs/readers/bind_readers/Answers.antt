use Rattle.std.proofs.Common.{[], ◌∷◌}
use Rattle.std.proofs.lemmas.Result.{err_from_is_err_and}
use Rattle.outside_kit.specs.Calls as call
use Rattle.outside_kit.specs.declared.port.Port.TheVariants.{ReadByA, ReadByB}
use Rattle.run_outside.proofs.Calling.{puts_then, puts_longer}
use Rattle.run_outside.proofs.readers.bind_readers.Goals as goal

pub returns-in_err-bind-clause-puts : goal.returns-in_err-bind-clause-puts
returns-in_err-bind-clause-puts g c =
    let p = err_from_is_err_and c.from_residual.result c.from_residual.ensures.1 in
    rw (p.1, p.2) (puts_longer (call.Bind ReadByB c.args.line.now.read_by_b.now ∷ []) (call.Bind ReadByA c.args.line.now.read_by_a.now ∷ []) _ _ c.in_err-bind.field-0.0 c.in_err-bind.ensures.puts)

pub returns-clause-puts : goal.returns-clause-puts
returns-clause-puts g c =
    puts_then (call.Bind ReadByB c.args.line.now.read_by_b.now ∷ []) (call.Bind ReadByA c.args.line.now.read_by_a.now ∷ []) _ _ _ _ c.bind-2.result c.in_ok-bind.ensures.puts c.bind-2.ensures.puts
