use Rattle.std.proofs.Common.{◌≤◌, ◌∙◌, List, [], ap, length, map, refl, subst, sym, arith}
use Rattle.std.proofs.lemmas.List.{take_all}
use Rattle.run_outside.specs.Plan.{AddsAll}
use Rattle.connection_table.specs.Lists.{as_names}
use Rattle.connection_table.specs.declared.list.Listed.{Listed}
use Rattle.connection_table.specs.Loads.{joined, loads_of}
use Rattle.std.proofs.lemmas.Result.{err_from_is_err_and}
use Rattle.run_outside.proofs.Calls.{adds_none}
use Rattle.connection_table.specs.ManyEnds.{AreAdmitted}
use Rattle.connection_table.specs.Tables.{opened_entry}
use Rattle.connection_table.proofs.Admitted.{admitted_none, count_more, entry_admitted, entry_refused, entry_unloaded}
use Rattle.connection_table.proofs.LoadsMade.{entry_calls, entry_cut, entry_made}
use Rattle.connection_table.proofs.loading.admit_all.Goals as goal

pub loop-entry-init : goal.loop-entry-init
loop-entry-init g c = record {
  count = ap length c.requires.empty;
  admitted = subst (λ table. AreAdmitted (g.O.Outside.told c.args.outside.now).content [] table) (sym c.requires.empty) (admitted_none (g.O.Outside.told c.args.outside.now).content);
  only = record { counted = omega arith; counts = λ port. refl; held = λ port. refl };
  calls = adds_none (g.O.Outside.told c.args.outside.now).calls;
  same_contents = λ other. refl;
}

pub returns-in_err-input-clause-fault : goal.returns-in_err-input-clause-fault
returns-in_err-input-clause-fault g c =
    let p = err_from_is_err_and c.from_residual.result c.from_residual.ensures.1 in
    let inv = c.loop-entry.invariant in
    rw (p.1, p.2) (entry_unloaded (g.O.Outside.told c.loop-entry.outside).content (g.O.Outside.told c.args.outside.now).content inv.same_contents c.args.listed.now c.loop-entry.entry-index _
    c.loop-entry-test.true c.loop-entry.table inv.admitted _ _ _ inv.only.counted c.len-number.result c.len-number.ensures.count c.in_err-input.field-0.0 c.in_err-input.ensures.fault)

pub returns-in_err-input-clause-calls_cut : goal.returns-in_err-input-clause-calls_cut
returns-in_err-input-clause-calls_cut g c =
    let p = err_from_is_err_and c.from_residual.result c.from_residual.ensures.1 in
    let inv = c.loop-entry.invariant in
    let count = c.len-number.ensures.count in
    rw (p.1, p.2) (entry_cut c.args.listed.now c.loop-entry.entry-index _ c.loop-entry-test.true _ _ _ inv.calls c.len-number.result (omega (arith, count, inv.count)) _ _ _
    c.in_err-input.field-0.0 c.in_err-input.ensures.fault c.in_err-input.ensures.calls_cut)

pub returns-in_err-admit-clause-calls_cut : goal.returns-in_err-admit-clause-calls_cut
returns-in_err-admit-clause-calls_cut g c =
    let p = err_from_is_err_and c.from_residual-in_err-admit.result c.from_residual-in_err-admit.ensures.1 in
    let inv = c.loop-entry.invariant in
    let count = c.len-number.ensures.count in
    rw (p.1, p.2) (entry_made c.args.listed.now c.loop-entry.entry-index _ c.loop-entry-test.true _ _ _ inv.calls c.len-number.result (omega (arith, count, inv.count)) _
    c.in_err-admit.field-0.0 c.in_err-admit.ensures.fault c.in_ok-input.ensures.calls)

pub admit-requires-clause-ranges : goal.admit-requires-clause-ranges
admit-requires-clause-ranges g c = c.in_ok-input.ensures.input.leaves.ranges

pub admit-requires-clause-few : goal.admit-requires-clause-few
admit-requires-clause-few g c = omega (arith, c.loop-entry.invariant.count, c.loop-entry-test.true, c.requires.few)

pub returns-in_err-admit-clause-fault : goal.returns-in_err-admit-clause-fault
returns-in_err-admit-clause-fault g c =
    let p = err_from_is_err_and c.from_residual-in_err-admit.result c.from_residual-in_err-admit.ensures.1 in
    let inv = c.loop-entry.invariant in
    rw (p.1, p.2) (entry_refused (g.O.Outside.told c.loop-entry.outside).content (g.O.Outside.told c.args.outside.now).content inv.same_contents c.args.listed.now c.loop-entry.entry-index _
    c.loop-entry-test.true c.loop-entry.table inv.admitted (g.O.Outside.told c.args.outside.now).load_faults (g.O.Outside.told c.loop-entry.outside).load_faults
    (g.O.Outside.told c.load_input.new.outside).load_faults inv.only.counted c.len-number.result c.len-number.ensures.count c.in_err-admit.field-0.0 c.in_ok-input.input
    c.in_ok-input.ensures.input c.in_err-admit.ensures.fault)

pub loop-entry-preserved : goal.loop-entry-preserved
loop-entry-preserved g c =
    let inv = c.loop-entry.invariant in
    let made = c.load_input.ensures.only in
    record {
      count = count_more c.loop-entry.table c.admit.new.table (opened_entry c.in_ok-input.input) c.loop-entry.entry-index inv.count c.in_ok-admit.ensures.ok;
      calls = entry_calls c.args.listed.now c.loop-entry.entry-index _ c.loop-entry-test.true _ _ _ inv.calls c.in_ok-input.ensures.calls;
      admitted = entry_admitted (g.O.Outside.told c.loop-entry.outside).content (g.O.Outside.told c.args.outside.now).content inv.same_contents c.args.listed.now c.loop-entry.entry-index _
          c.loop-entry-test.true c.loop-entry.table inv.admitted c.in_ok-input.input c.admit.new.table c.in_ok-input.ensures.input c.in_ok-admit.ensures.new c.in_ok-admit.ensures.ok;
      only = record {
        counted = (let first = inv.only.counted in let second = made.counted in omega (arith, first, second));
        counts = λ port. made.counts port ∙ inv.only.counts port;
        held = λ port. made.held port ∙ inv.only.held port;
      };
      same_contents = λ other. c.load_input.ensures.same_contents other ∙ inv.same_contents other;
    }

pub returns-clause-calls : goal.returns-clause-calls
returns-clause-calls g c =
    let past : length c.args.listed.now ≤ c.loop-entry.entry-index = omega (arith, c.loop-entry-test.false) in
    subst (λ (listed : List Listed). AddsAll (joined (map loads_of (map as_names listed))) (g.O.Outside.told c.args.outside.now).calls (g.O.Outside.told c.loop-entry.outside).calls)
    (take_all c.loop-entry.entry-index c.args.listed.now past) c.loop-entry.invariant.calls
