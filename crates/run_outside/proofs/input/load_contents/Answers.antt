use Rattle.std.proofs.Common.{refl, [], ◌∷◌}
use Rattle.std.proofs.lemmas.Result.{err_from_is_err_and}
use Rattle.outside_kit.specs.Calls as call
use Rattle.run_words.specs.Lines.{as_line}
use Rattle.run_outside.specs.declared.status.Named.{Named}
use Rattle.run_outside.specs.Plan.{first_loads}
use Rattle.run_outside.proofs.Calling.{loads_ended, loads_any, loads_then}
use Rattle.run_outside.proofs.Calls.{all_then}
use Rattle.run_outside.proofs.Loading.{load_cut}
use Rattle.run_outside.proofs.input.load_contents.Goals as goal

pub returns-in_err-script-clause-loads : goal.returns-in_err-script-clause-loads
returns-in_err-script-clause-loads g c =
    let p = err_from_is_err_and c.from_residual.result c.from_residual.ensures.1 in
    rw (p.1, p.2) (loads_ended (call.Load c.args.line.now.script.now ∷ []) (first_loads (as_line c.args.line.now)) _ _ _ c.in_err-script.field-0.0 c.load.ensures.loads)

pub returns-in_err-file_a-clause-loads : goal.returns-in_err-file_a-clause-loads
returns-in_err-file_a-clause-loads g c =
    let p = err_from_is_err_and c.from_residual-in_err-file_a.result c.from_residual-in_err-file_a.ensures.1 in
    rw (p.1, p.2) (loads_ended _ (first_loads (as_line c.args.line.now)) _ _ _ c.in_err-file_a.field-0.0
    (loads_then (call.Load c.args.line.now.script.now ∷ []) (call.Load c.args.line.now.file_a.now ∷ []) _ _ _ _ _ c.in_ok-script.ensures.loads c.load-2.ensures.loads))

pub returns-in_err-file_b-clause-loads : goal.returns-in_err-file_b-clause-loads
returns-in_err-file_b-clause-loads g c =
    let p = err_from_is_err_and c.from_residual-in_err-file_b.result c.from_residual-in_err-file_b.ensures.1 in
    rw (p.1, p.2) (loads_ended _ (first_loads (as_line c.args.line.now)) _ _ _ c.in_err-file_b.field-0.0
    (loads_then (call.Load c.args.line.now.script.now ∷ []) (call.Load c.args.line.now.file_a.now ∷ call.Load c.args.line.now.file_b.now ∷ []) _ _ _ _ _ c.in_ok-script.ensures.loads
    (loads_then (call.Load c.args.line.now.file_a.now ∷ []) (call.Load c.args.line.now.file_b.now ∷ []) _ _ _ _ _ c.in_ok-file_a.ensures.loads c.load-3.ensures.loads)))

pub returns-clause-loads : goal.returns-clause-loads
returns-clause-loads g c =
    loads_then (call.Load c.args.line.now.script.now ∷ []) (call.Load c.args.line.now.file_a.now ∷ call.Load c.args.line.now.file_b.now ∷ []) _ _ _ _ _ c.in_ok-script.ensures.loads
    (loads_then (call.Load c.args.line.now.file_a.now ∷ []) (call.Load c.args.line.now.file_b.now ∷ []) _ _ _ _ _ c.in_ok-file_a.ensures.loads
    (loads_any (call.Load c.args.line.now.file_b.now ∷ []) _ _ _ _ c.in_ok-file_b.ensures.loads))

pub returns-in_err-file_a-clause-calls_cut : goal.returns-in_err-file_a-clause-calls_cut
returns-in_err-file_a-clause-calls_cut g c =
    let line = as_line c.args.line.now in
    let p = err_from_is_err_and c.from_residual-in_err-file_a.result c.from_residual-in_err-file_a.ensures.1 in
    rw (p.1, p.2) (load_cut line Named.FileA line.names.file_a refl _ _ _ c.in_ok-script.ensures.loads.made c.in_err-file_a.ensures.calls_cut (first_loads line) (call.Load line.names.file_b ∷ []) _ _ _
    c.in_err-file_a.field-0.0 refl c.in_err-file_a.ensures.fault)

pub returns-in_err-file_b-clause-calls_cut : goal.returns-in_err-file_b-clause-calls_cut
returns-in_err-file_b-clause-calls_cut g c =
    let line = as_line c.args.line.now in
    let p = err_from_is_err_and c.from_residual-in_err-file_b.result c.from_residual-in_err-file_b.ensures.1 in
    rw (p.1, p.2) (load_cut line Named.FileB line.names.file_b refl _ _ _
    (all_then (call.Load line.names.script ∷ []) (call.Load line.names.file_a ∷ []) _ _ _ c.in_ok-script.ensures.loads.made c.in_ok-file_a.ensures.loads.made) c.in_err-file_b.ensures.calls_cut (first_loads line) [] _ _ _
    c.in_err-file_b.field-0.0 refl c.in_err-file_b.ensures.fault)
