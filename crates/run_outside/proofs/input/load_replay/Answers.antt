use Rattle.std.proofs.lemmas.Result.{err_from_is_err_and}
use Rattle.run_words.specs.Lines.{as_line}
use Rattle.run_outside.specs.Plan.{loads_of}
use Rattle.run_outside.proofs.Calling.{loads_ended, loads_any}
use Rattle.run_outside.proofs.LogEnds.{log_ends}
use Rattle.run_outside.proofs.Loading.{form_adds, logged_is_replay}
use Rattle.run_outside.proofs.input.load_replay.Goals as goal

pub returns-in_err-logged-clause-fault : goal.returns-in_err-logged-clause-fault
returns-in_err-logged-clause-fault g c =
    let p = err_from_is_err_and c.from_residual.result c.from_residual.ensures.1 in
    rw (p.1, p.2) (logged_is_replay (g.O.Outside.told c.args.outside.now).content (as_line c.args.line.now) _ _ c.in_err-logged.field-0.0 c.in_err-logged.ensures.fault)

pub returns-in_err-logged-clause-calls_cut : goal.returns-in_err-logged-clause-calls_cut
returns-in_err-logged-clause-calls_cut g c =
    let p = err_from_is_err_and c.from_residual.result c.from_residual.ensures.1 in
    rw (p.1, p.2) c.in_err-logged.ensures.calls_cut

pub returns-in_err-logged-clause-loads : goal.returns-in_err-logged-clause-loads
returns-in_err-logged-clause-loads g c =
    let p = err_from_is_err_and c.from_residual.result c.from_residual.ensures.1 in
    rw (p.1, p.2) (loads_ended _ (loads_of (as_line c.args.line.now)) _ _ _ c.in_err-logged.field-0.0 c.load_logged.ensures.loads)

pub returns-in_err-turns-clause-calls_cut : goal.returns-in_err-turns-clause-calls_cut
returns-in_err-turns-clause-calls_cut g c =
    let line = as_line c.args.line.now in let p = err_from_is_err_and c.from_residual-in_err-turns.result c.from_residual-in_err-turns.ensures.1 in
    rw (p.1, p.2) (form_adds line (loads_of line) _ _ c.in_ok-logged.logged.input.script _ c.in_err-turns.field-0.0 c.in_ok-logged.ensures.loads.made c.in_err-turns.ensures.fault)

pub returns-in_err-turns-clause-loads : goal.returns-in_err-turns-clause-loads
returns-in_err-turns-clause-loads g c =
    let p = err_from_is_err_and c.from_residual-in_err-turns.result c.from_residual-in_err-turns.ensures.1 in
    rw (p.1, p.2) (loads_ended _ (loads_of (as_line c.args.line.now)) _ _ _ c.in_err-turns.field-0.0 c.in_ok-logged.ensures.loads)

pub returns-clause-ends : goal.returns-clause-ends
returns-clause-ends g c = log_ends _ _ _ _ c.in_ok-turns.ensures.turns

pub returns-clause-loads : goal.returns-clause-loads
returns-clause-loads g c = loads_any (loads_of (as_line c.args.line.now)) _ _ _ _ c.in_ok-logged.ensures.loads
