use Rattle.std.proofs.Common.{sym, ap, subst, [], ◌∷◌}
use Rattle.std.proofs.lemmas.Result.{err_from_is_err_and}
use Rattle.outside_kit.specs.Calls as call
use Rattle.run_words.specs.Lines.{as_line}
use Rattle.run_outside.specs.declared.status.Named.TheVariants as named
use Rattle.run_outside.specs.Inputs.{order_of}
use Rattle.run_outside.specs.Plan.{AddsAll, load_of, first_loads, loads_of}
use Rattle.run_outside.proofs.Calling.{loads_ended, loads_any, loads_then, loads_by}
use Rattle.run_outside.proofs.Calls.{all_then}
use Rattle.run_outside.proofs.Loading.{load_cut, load_fault, logged_fault, loads_longer, input_adds, script_adds, replay_loads, loaded_of}
use Rattle.run_outside.proofs.input.load_logged.Goals as goal

pub returns-in_err-contents-clause-calls_cut : goal.returns-in_err-contents-clause-calls_cut
returns-in_err-contents-clause-calls_cut g c =
    let line = as_line c.args.line.now in let p = err_from_is_err_and c.from_residual.result c.from_residual.ensures.1 in
    rw (p.1, p.2) (input_adds line (loads_of line) _ _ c.in_err-contents.field-0.0
    (loads_longer line (first_loads line) (load_of (order_of line.work)) _ _ c.in_err-contents.field-0.0 c.in_err-contents.ensures.calls_cut))

pub returns-in_err-log-clause-calls_cut : goal.returns-in_err-log-clause-calls_cut
returns-in_err-log-clause-calls_cut g c =
    let line = as_line c.args.line.now in let p = err_from_is_err_and c.from_residual-in_err-log.result c.from_residual-in_err-log.ensures.1 in
    rw (p.1, p.2) (input_adds line (loads_of line) _ _ c.in_err-log.field-0.0
    (load_cut line named.Order c.args.order.now (ap order_of c.requires.named) _ _ _ c.in_ok-contents.ensures.loads.made c.in_err-log.ensures.calls_cut (loads_of line) [] _ _ _ c.in_err-log.field-0.0
    (sym (replay_loads line c.args.order.now c.requires.named)) c.in_err-log.ensures.named))

pub returns-in_err-input-clause-calls_cut : goal.returns-in_err-input-clause-calls_cut
returns-in_err-input-clause-calls_cut g c =
    let line = as_line c.args.line.now in let p = err_from_is_err_and c.from_residual-in_err-input.result c.from_residual-in_err-input.ensures.1 in
    let loaded = subst (λ plan. AddsAll plan (g.O.Outside.told c.args.outside.now).calls (g.O.Outside.told c.load_order.new.outside).calls) (replay_loads line c.args.order.now c.requires.named)
    (all_then (first_loads line) (call.Load c.args.order.now ∷ []) _ _ _ c.in_ok-contents.ensures.loads.made c.in_ok-log.ensures.loads.made) in
    rw (p.1, p.2) (script_adds line (loads_of line) _ _ _ c.in_err-input.field-0.0 loaded c.in_err-input.ensures.fault)

pub returns-clause-loaded : goal.returns-clause-loaded
returns-clause-loaded g c =
    let read = c.in_ok-input.ensures in
    loaded_of c.in_ok-input.input _ _ _ read.script read.ranges read.file_a read.file_b c.in_ok-contents.ensures.file_a_within c.in_ok-contents.ensures.file_b_within

pub returns-in_err-contents-clause-fault : goal.returns-in_err-contents-clause-fault
returns-in_err-contents-clause-fault g c =
    let p = err_from_is_err_and c.from_residual.result c.from_residual.ensures.1 in
    rw (p.1, p.2) (logged_fault (g.O.Outside.told c.args.outside.now).content (as_line c.args.line.now) _ _ c.in_err-contents.field-0.0 c.in_err-contents.ensures.fault)

pub returns-in_err-log-clause-fault : goal.returns-in_err-log-clause-fault
returns-in_err-log-clause-fault g c =
    let line = as_line c.args.line.now in let p = err_from_is_err_and c.from_residual-in_err-log.result c.from_residual-in_err-log.ensures.1 in
    rw (p.1, p.2) (logged_fault (g.O.Outside.told c.args.outside.now).content line _ _ c.in_err-log.field-0.0
    (load_fault (g.O.Outside.told c.load_contents.new.outside).content (g.O.Outside.told c.args.outside.now).content line named.Order c.args.order.now _ _ _ c.in_err-log.field-0.0
    (ap order_of c.requires.named) c.in_ok-contents.ensures.within c.load_contents.ensures.same_contents c.load_contents.ensures.loads.counted c.in_err-log.ensures.named))

pub returns-in_err-contents-clause-loads : goal.returns-in_err-contents-clause-loads
returns-in_err-contents-clause-loads g c =
    let p = err_from_is_err_and c.from_residual.result c.from_residual.ensures.1 in
    rw (p.1, p.2) (loads_ended (first_loads (as_line c.args.line.now)) (loads_of (as_line c.args.line.now)) _ _ _ c.in_err-contents.field-0.0 c.load_contents.ensures.loads)

pub returns-in_err-log-clause-loads : goal.returns-in_err-log-clause-loads
returns-in_err-log-clause-loads g c =
    let p = err_from_is_err_and c.from_residual-in_err-log.result c.from_residual-in_err-log.ensures.1 in
    rw (p.1, p.2) (loads_ended _ (loads_of (as_line c.args.line.now)) _ _ _ c.in_err-log.field-0.0
    (loads_then (first_loads (as_line c.args.line.now)) (call.Load c.args.order.now ∷ []) _ _ _ _ _ c.in_ok-contents.ensures.loads c.load_order.ensures.loads))

pub returns-in_err-input-clause-loads : goal.returns-in_err-input-clause-loads
returns-in_err-input-clause-loads g c =
    let p = err_from_is_err_and c.from_residual-in_err-input.result c.from_residual-in_err-input.ensures.1 in
    rw (p.1, p.2) (loads_ended _ (loads_of (as_line c.args.line.now)) _ _ _ c.in_err-input.field-0.0
    (loads_then (first_loads (as_line c.args.line.now)) (call.Load c.args.order.now ∷ []) _ _ _ _ _ c.in_ok-contents.ensures.loads c.in_ok-log.ensures.loads))

pub returns-clause-loads : goal.returns-clause-loads
returns-clause-loads g c =
    loads_by _ (loads_of (as_line c.args.line.now)) _ _ _ (replay_loads (as_line c.args.line.now) c.args.order.now c.requires.named)
    (loads_then (first_loads (as_line c.args.line.now)) (call.Load c.args.order.now ∷ []) _ _ _ _ _ c.in_ok-contents.ensures.loads
    (loads_any (call.Load c.args.order.now ∷ []) _ _ _ _ c.in_ok-log.ensures.loads))
