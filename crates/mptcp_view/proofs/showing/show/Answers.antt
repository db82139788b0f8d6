use Rattle.std.proofs.Common.{sym, subst}
use Rattle.std.proofs.lemmas.Result.{err_from_is_err_and}
use Rattle.world_core.specs.Logged.{all_turns}
use Rattle.mptcp_view.specs.Asking.{as_asked}
use Rattle.mptcp_view.specs.Views.{IsViewOf}
use Rattle.mptcp_view.proofs.Answering.{answered, are_inputs, refused_early, refused_late}
use Rattle.mptcp_view.proofs.Refusing.{inputs_refused, log_refused, turns_refused}
use Rattle.mptcp_view.proofs.showing.show.Goals as goal

pub returns-in_err-logged : goal.returns-in_err-logged
returns-in_err-logged g c =
    let old = g.O.Outside.told c.args.outside.now in let middle = g.O.Outside.told c.load_logged.new.outside in
    let asked = as_asked c.args.asked.now in let loaded = c.in_err-logged.ensures in
    let p = err_from_is_err_and c.from_residual.result c.from_residual.ensures.1 in
    rw (p.1, p.2) (refused_early asked old middle c.in_err-logged.field-0.0
    (inputs_refused asked old middle c.in_err-logged.field-0.0 loaded.fault loaded.calls_cut loaded.loads.untouched) loaded.loads.untouched)

pub returns-in_err-read : goal.returns-in_err-read
returns-in_err-read g c =
    let old = g.O.Outside.told c.args.outside.now in let middle = g.O.Outside.told c.load_logged.new.outside in
    let asked = as_asked c.args.asked.now in let loaded = c.in_ok-logged.ensures in let logged = c.in_ok-logged.logged in
    let are = are_inputs old.content asked c.args.asked.now.log.now logged.input logged.log.items c.requires loaded.within loaded.script loaded.file_a loaded.file_b loaded.log in
    let p = err_from_is_err_and c.from_residual-in_err-read.result c.from_residual-in_err-read.ensures.1 in
    rw (p.1, p.2) (refused_early asked old middle c.in_err-read.field-0.0
    (log_refused asked old middle logged.input logged.log.items are loaded.loads.made loaded.loads.untouched c.in_err-read.field-0.0 c.in_err-read.ensures.fault) loaded.loads.untouched)

pub returns-in_err-shown : goal.returns-in_err-shown
returns-in_err-shown g c =
    let old = g.O.Outside.told c.args.outside.now in let middle = g.O.Outside.told c.load_logged.new.outside in
    let asked = as_asked c.args.asked.now in let loaded = c.in_ok-logged.ensures in let logged = c.in_ok-logged.logged in
    let are = are_inputs old.content asked c.args.asked.now.log.now logged.input logged.log.items c.requires loaded.within loaded.script loaded.file_a loaded.file_b loaded.log in
    let read = c.in_ok-read.read in
    let p = err_from_is_err_and c.from_residual-in_err-shown.result c.from_residual-in_err-shown.ensures.1 in
    rw (p.1, p.2) (refused_early asked old middle c.in_err-shown.field-0.0
    (turns_refused asked old middle logged.input logged.log.items are loaded.loads.made loaded.loads.untouched read.extent read.part.items read.turns.items c.in_ok-read.ensures.read
    c.in_err-shown.field-0.0 c.in_err-shown.ensures.fault) loaded.loads.untouched)

pub returns-in-Ok : goal.returns-in-Ok
returns-in-Ok g c =
    let old = g.O.Outside.told c.args.outside.now in let middle = g.O.Outside.told c.load_logged.new.outside in
    let asked = as_asked c.args.asked.now in let loaded = c.in_ok-logged.ensures in let logged = c.in_ok-logged.logged in
    let are = are_inputs old.content asked c.args.asked.now.log.now logged.input logged.log.items c.requires loaded.within loaded.script loaded.file_a loaded.file_b loaded.log in
    let read = c.in_ok-read.read in
    answered asked logged.input logged.log.items read.extent read.part.items read.turns.items old middle (g.O.Outside.told c.write_out.new.outside) c.deref.result.now
    are c.in_ok-read.ensures.read c.in_ok-shown.ensures.lawful c.in_ok-shown.ensures.told
    (subst (IsViewOf c.args.asked.now.view logged.input (all_turns read.turns.items)) (sym c.deref.ensures.value) c.in_ok-shown.ensures.shown)
    loaded.loads.untouched loaded.loads.made c.in-Ok.ensures.other_ports c.in-Ok.ensures.other_counts c.in-Ok.ensures.ok c.in-Ok.ensures.made

pub returns : goal.returns
returns g c =
    let old = g.O.Outside.told c.args.outside.now in let middle = g.O.Outside.told c.load_logged.new.outside in
    let asked = as_asked c.args.asked.now in let loaded = c.in_ok-logged.ensures in let logged = c.in_ok-logged.logged in
    let are = are_inputs old.content asked c.args.asked.now.log.now logged.input logged.log.items c.requires loaded.within loaded.script loaded.file_a loaded.file_b loaded.log in
    let read = c.in_ok-read.read in
    refused_late asked logged.input logged.log.items read.extent read.part.items read.turns.items old middle (g.O.Outside.told c.write_out.new.outside) c.deref.result.now
    are c.in_ok-read.ensures.read c.in_ok-shown.ensures.lawful c.in_ok-shown.ensures.told
    (subst (IsViewOf c.args.asked.now.view logged.input (all_turns read.turns.items)) (sym c.deref.ensures.value) c.in_ok-shown.ensures.shown)
    loaded.loads.untouched loaded.loads.made c.in-Err.ensures.other_ports c.in-Err.ensures.other_counts c.in-Err.status c.in-Err.ensures.err c.in-Err.ensures.fault c.in-Err.ensures.cut
