use Rattle.std.proofs.lemmas.Result.{err_from_is_err_and}
use Rattle.run_outside.proofs.Calling.{puts_made, puts_ended}
use Rattle.mptcp_run.proofs.top_call.end.Goals as goal

pub returns-in_err-put_last-clause-puts : goal.returns-in_err-put_last-clause-puts
returns-in_err-put_last-clause-puts g c =
    let p = err_from_is_err_and c.from_residual.result c.from_residual.ensures.1 in
    rw (p.1, p.2) (puts_ended _ _ _ c.in_err-put_last.field-0.0 c.in_err-put_last.ensures.puts)

pub returns-clause-puts : goal.returns-clause-puts
returns-clause-puts g c = puts_made _ _ _ _ _ c.in_ok-put_last.ensures.puts
