use Rattle.std.proofs.Common.{[], ◌∷◌}
use Rattle.std.proofs.lemmas.Result.{err_from_is_err_and}
use Rattle.outside_kit.specs.Calls as call
use Rattle.run_outside.proofs.Calls.{adds_none, all_then}
use Rattle.run_outside.proofs.PortsLemmas.{IfErr-map, OnOk-holds}
use Rattle.connection_table.specs.Lists.{as_names}
use Rattle.connection_table.specs.Loads.{loads_of}
use Rattle.connection_table.proofs.Adding.{all_made, load_adds, script_adds}
use Rattle.connection_table.proofs.inputs.load_input.Goals as goal

pub returns-in_err-script-clause-calls_cut : goal.returns-in_err-script-clause-calls_cut
returns-in_err-script-clause-calls_cut g c =
    let p = err_from_is_err_and c.from_residual.result c.from_residual.ensures.1 in
    let names = as_names c.args.listed.now in
    rw (p.1, p.2) (load_adds [] (call.Load names.file_a ∷ call.Load names.file_b ∷ []) (call.Load names.script) _ _ _ (adds_none (g.O.Outside.told c.args.outside.now).calls)
    c.in_err-script.ensures.calls_cut _ _ _ _ c.in_err-script.field-0.0 c.in_err-script.ensures.fault)

pub returns-in_err-file_a-clause-calls_cut : goal.returns-in_err-file_a-clause-calls_cut
returns-in_err-file_a-clause-calls_cut g c =
    let p = err_from_is_err_and c.from_residual-in_err-file_a.result c.from_residual-in_err-file_a.ensures.1 in
    let names = as_names c.args.listed.now in
    rw (p.1, p.2) (load_adds (call.Load names.script ∷ []) (call.Load names.file_b ∷ []) (call.Load names.file_a) _ _ _ c.in_ok-script.ensures.calls
    c.in_err-file_a.ensures.calls_cut _ _ _ _ c.in_err-file_a.field-0.0 c.in_err-file_a.ensures.fault)

pub returns-in_err-file_b-clause-calls_cut : goal.returns-in_err-file_b-clause-calls_cut
returns-in_err-file_b-clause-calls_cut g c =
    let p = err_from_is_err_and c.from_residual-in_err-file_b.result c.from_residual-in_err-file_b.ensures.1 in
    let names = as_names c.args.listed.now in
    rw (p.1, p.2) (load_adds (call.Load names.script ∷ call.Load names.file_a ∷ []) [] (call.Load names.file_b) _ _ _
    (all_then (call.Load names.script ∷ []) (call.Load names.file_a ∷ []) _ _ _ c.in_ok-script.ensures.calls c.in_ok-file_a.ensures.calls)
    c.in_err-file_b.ensures.calls_cut _ _ _ _ c.in_err-file_b.field-0.0 c.in_err-file_b.ensures.fault)

pub returns-clause-calls_cut : goal.returns-clause-calls_cut
returns-clause-calls_cut g c =
    let names = as_names c.args.listed.now in
    IfErr-map c.input_of.result
    (λ many fault. script_adds (loads_of names) _ _ _ _ many (all_made (call.Load names.script) (call.Load names.file_a) (call.Load names.file_b) _ _ _ _
    c.in_ok-script.ensures.calls c.in_ok-file_a.ensures.calls c.in_ok-file_b.ensures.calls) fault)
    c.input_of.ensures.fault

pub returns-clause-calls : goal.returns-clause-calls
returns-clause-calls g c =
    let names = as_names c.args.listed.now in
    OnOk-holds c.input_of.result _ (all_made (call.Load names.script) (call.Load names.file_a) (call.Load names.file_b) _ _ _ _
    c.in_ok-script.ensures.calls c.in_ok-file_a.ensures.calls c.in_ok-file_b.ensures.calls)
