use Rattle.std.proofs.lemmas.Result.{err_from_is_err_and}
use Rattle.message_pipe.proofs.Longer.{lined_too_long}
use Rattle.message_pipe.proofs.line_outside.load_from.Goals as goal

pub returns-in_err-bytes-clause-too_long : goal.returns-in_err-bytes-clause-too_long
returns-in_err-bytes-clause-too_long g c = λ e.
    let p = err_from_is_err_and c.from_residual.result c.from_residual.ensures.1 in
    let q = p.1 in
    let r = p.2 in
    lined_too_long c.args.limit c.args.lined.0.now c.args.lined.1.now c.args.name.now (g.O.Outside.told c.args.inner.now).content (c.in_err-bytes.ensures.too_long cc)
