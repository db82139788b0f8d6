use Rattle.std.proofs.Common.{◌≡◌, ◌∙◌, ap, sym, Ok, [], ◌∷◌, map, arith}
use Rattle.std.proofs.lemmas.Result.{err_from_is_err_and}
use Rattle.run_outside.proofs.PortsLemmas.{IfErr-map, OnOk-both}
use Rattle.run_outside.proofs.Calls.{all_then}
use Rattle.outside_kit.specs.Calls as call
use Rattle.connection_table.specs.Loads.{joined, loads_of}
use Rattle.connection_table.specs.Lists.{as_names, list_reading}
use Rattle.connection_table.specs.ListWords.{as_words}
use Rattle.connection_table.proofs.Admitted.{admitted_of_same, listed_of_same}
use Rattle.connection_table.specs.ManyEnds.{Says}
use Rattle.connection_table.proofs.LoadsMade.{list_refused, list_unloaded, listed_ends}
use Rattle.connection_table.proofs.RunEnds.{one_refused, table_of}
use Rattle.connection_table.proofs.listed_run.admit_listed.Goals as goal

pub returns-clause-ok : goal.returns-clause-ok
returns-clause-ok g c =
    let names = map as_names c.deref-2.result.now in
    let count = c.in_ok-list.list.ok.0 in
    let read : Says c.in_ok-list.list.items names =
    (omega (arith, count, c.in_ok-list.ensures.within), ap list_reading (sym c.deref.ensures.value) ∙ c.in_ok-listed.ensures.ok ∙ ap (λ listed. Ok (map as_names listed)) (sym c.deref-2.ensures.value)) in
    OnOk-both c.admit_all.result
    (λ are calls. table_of (as_words c.args.words.now) c.in_ok-list.list.items names c.admit_all.new.table
    (g.O.Outside.told c.args.outside.now) (g.O.Outside.told c.admit_all.new.outside) c.in_ok-list.ensures.whole read
    (all_then (call.Load (as_words c.args.words.now).list ∷ []) (joined (map loads_of names)) _ _ _ c.in_ok-list.ensures.calls calls)
    (admitted_of_same (g.O.Outside.told c.load.new.outside).content (g.O.Outside.told c.args.outside.now).content c.load.ensures.same_contents names c.admit_all.new.table are))
    c.admit_all.ensures.ok c.admit_all.ensures.calls

pub returns-clause-fault : goal.returns-clause-fault
returns-clause-fault g c =
    let names = map as_names c.deref-2.result.now in
    let count = c.in_ok-list.list.ok.0 in
    let read : Says c.in_ok-list.list.items names =
    (omega (arith, count, c.in_ok-list.ensures.within), ap list_reading (sym c.deref.ensures.value) ∙ c.in_ok-listed.ensures.ok ∙ ap (λ listed. Ok (map as_names listed)) (sym c.deref-2.ensures.value)) in
    IfErr-map c.admit_all.result
    (λ many fault. one_refused (g.O.Outside.told c.args.outside.now).content (as_words c.args.words.now) (g.O.Outside.told c.args.outside.now).load_faults (g.O.Outside.told c.admit_all.new.outside).load_faults
    c.in_ok-list.list.items c.in_ok-list.ensures.whole names read many
    (listed_of_same (g.O.Outside.told c.load.new.outside).content (g.O.Outside.told c.args.outside.now).content c.load.ensures.same_contents
    (g.O.Outside.told c.args.outside.now).load_faults (g.O.Outside.told c.load.new.outside).load_faults (g.O.Outside.told c.admit_all.new.outside).load_faults c.load.ensures.only.counted names many fault))
    c.admit_all.ensures.fault

pub returns-in_err-list-clause-calls : goal.returns-in_err-list-clause-calls
returns-in_err-list-clause-calls g c =
    let p = err_from_is_err_and c.from_residual.result c.from_residual.ensures.1 in
    rw (p.1, p.2) (list_unloaded (g.O.Outside.told c.args.outside.now).content (as_words c.args.words.now) _ _ _ _ _ c.in_err-list.field-0.0 c.in_err-list.ensures.fault c.in_err-list.ensures.calls_cut)

pub returns-in_err-listed-clause-calls : goal.returns-in_err-listed-clause-calls
returns-in_err-listed-clause-calls g c =
    let p = err_from_is_err_and c.from_residual-in_err-listed.result c.from_residual-in_err-listed.ensures.1 in
    rw (p.1, p.2) (list_refused (g.O.Outside.told c.args.outside.now).content (as_words c.args.words.now) _ _ c.deref.result.now c.in_err-listed.field-0.0 c.in_err-listed.ensures.fault c.in_ok-list.ensures.calls)

pub returns-clause-calls : goal.returns-clause-calls
returns-clause-calls g c =
    let names = map as_names c.deref-2.result.now in
    let read : list_reading c.in_ok-list.list.items ≡ Ok names =
    ap list_reading (sym c.deref.ensures.value) ∙ c.in_ok-listed.ensures.ok ∙ ap (λ listed. Ok (map as_names listed)) (sym c.deref-2.ensures.value) in
    IfErr-map c.admit_all.result
    (λ many adds. listed_ends (g.O.Outside.told c.args.outside.now).content (as_words c.args.words.now) _ _ _ c.in_ok-list.list.items names many c.in_ok-list.ensures.whole read
    c.in_ok-list.ensures.calls adds)
    c.admit_all.ensures.calls_cut
