use Rattle.std.proofs.lemmas.Result.{err_from_is_err_and}
use Rattle.run_words.specs.Lines.{as_line}
use Rattle.run_outside.specs.Plan.{first_loads}
use Rattle.run_outside.proofs.Calling.{loads_ended, loads_any}
use Rattle.run_outside.proofs.Loading.{input_adds, input_fault, script_adds, loaded}
use Rattle.run_outside.proofs.PortsLemmas.{IfErr-map}
use Rattle.run_outside.proofs.input.load_input.Goals as goal

pub returns-in_err-contents-clause-calls_cut : goal.returns-in_err-contents-clause-calls_cut
returns-in_err-contents-clause-calls_cut g c =
    let line = as_line c.args.line.now in let p = err_from_is_err_and c.from_residual.result c.from_residual.ensures.1 in
    rw (p.1, p.2) (input_adds line (first_loads line) _ _ c.in_err-contents.field-0.0 c.in_err-contents.ensures.calls_cut)

pub returns-clause-calls_cut : goal.returns-clause-calls_cut
returns-clause-calls_cut g c =
    let line = as_line c.args.line.now in
    IfErr-map c.input_of.result (λ status fault. script_adds line (first_loads line) _ _ _ status c.in_ok-contents.ensures.loads.made fault) c.input_of.ensures.fault

pub returns-clause-loaded : goal.returns-clause-loaded
returns-clause-loaded g c =
    loaded c.input_of.result _ _ _ c.input_of.ensures.script c.input_of.ensures.ranges c.input_of.ensures.file_a c.input_of.ensures.file_b
    c.in_ok-contents.ensures.file_a_within c.in_ok-contents.ensures.file_b_within

pub returns-in_err-contents-clause-fault : goal.returns-in_err-contents-clause-fault
returns-in_err-contents-clause-fault g c =
    let p = err_from_is_err_and c.from_residual.result c.from_residual.ensures.1 in
    rw (p.1, p.2) (input_fault (g.O.Outside.told c.args.outside.now).content (as_line c.args.line.now) _ _ c.in_err-contents.field-0.0 c.in_err-contents.ensures.fault)

pub returns-in_err-contents-clause-loads : goal.returns-in_err-contents-clause-loads
returns-in_err-contents-clause-loads g c =
    let p = err_from_is_err_and c.from_residual.result c.from_residual.ensures.1 in
    rw (p.1, p.2) (loads_ended (first_loads (as_line c.args.line.now)) (first_loads (as_line c.args.line.now)) _ _ _ c.in_err-contents.field-0.0 c.load_contents.ensures.loads)

pub returns-clause-loads : goal.returns-clause-loads
returns-clause-loads g c = loads_any (first_loads (as_line c.args.line.now)) _ _ _ c.input_of.result c.in_ok-contents.ensures.loads
