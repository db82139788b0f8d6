use Rattle.std.proofs.Common.{◌++◌, sym, subst}
use Rattle.std.specs.List.{All}
use Rattle.std.proofs.lemmas.Result.{err_from_is_err_and}
use Rattle.outside_kit.specs.declared.port.Port.{Port}
use Rattle.outside_kit.specs.Outside.{HoldsPrefix}
use Rattle.run_outside.proofs.PortsLemmas.{IfErr-three, OnOk-both, after_from}
use Rattle.connection_table.specs.ListWords.{as_words}
use Rattle.connection_table.specs.ManyEnds.{IsPutFault}
use Rattle.connection_table.specs.ManyLines.{lines_of}
use Rattle.connection_table.specs.ManyRounds.{Runs}
use Rattle.connection_table.proofs.EndsRight.{opened_run}
use Rattle.connection_table.proofs.RunEnds.{ends_cut, ends_done, ends_unmade, ends_unput}
use Rattle.connection_table.proofs.listed_run.run.Goals as goal

pub make_rounds-requires-clause-run : goal.make_rounds-requires-clause-run
make_rounds-requires-clause-run g c =
    let of = c.in_ok-admit_listed.ensures.ok in
    subst (All Runs) (sym of.table_is) (opened_run of.inputs of.listed.short of.listed.leave)

pub returns-in_err-admit_listed-clause-ends : goal.returns-in_err-admit_listed-clause-ends
returns-in_err-admit_listed-clause-ends g c =
    let p = err_from_is_err_and c.from_residual.result c.from_residual.ensures.1 in
    rw (p.1, p.2) (ends_unput (as_words c.args.words.now) (g.O.Outside.told c.args.outside.now) (g.O.Outside.told c.admit_listed.new.outside) c.in_err-admit_listed.field-0.0
    c.in_err-admit_listed.ensures.fault (c.admit_listed.ensures.only.held Port.Log) c.in_err-admit_listed.ensures.calls)

pub returns-in_err-make_rounds-clause-ends : goal.returns-in_err-make_rounds-clause-ends
returns-in_err-make_rounds-clause-ends g c =
    let p = err_from_is_err_and c.from_residual-in_err-make_rounds.result c.from_residual-in_err-make_rounds.ensures.1 in
    rw (p.1, p.2) (ends_unmade (as_words c.args.words.now) (g.O.Outside.told c.args.outside.now) (g.O.Outside.told c.admit_listed.new.outside) _ c.in_ok-admit_listed.ensures.ok
    (c.admit_listed.ensures.only.held Port.Log))

pub returns-clause-done : goal.returns-clause-done
returns-clause-done g c =
    let old = g.O.Outside.told c.args.outside.now in let middle = g.O.Outside.told c.admit_listed.new.outside in let new = g.O.Outside.told c.put_lines.new.outside in
    OnOk-both c.put_lines.result
    (λ put calls. ends_done (as_words c.args.words.now) old new middle c.admit_listed.new.table c.make_rounds.new.table c.in_ok-admit_listed.ensures.ok c.in_ok-make_rounds.ensures.made
    (after_from (old.holds Port.Log) (middle.holds Port.Log) (new.holds Port.Log) (λ held. held ++ lines_of c.make_rounds.new.table) (c.admit_listed.ensures.only.held Port.Log) put)
    calls)
    c.put_lines.ensures.ok c.put_lines.ensures.calls

pub returns-clause-ends : goal.returns-clause-ends
returns-clause-ends g c =
    let old = g.O.Outside.told c.args.outside.now in let middle = g.O.Outside.told c.admit_listed.new.outside in let new = g.O.Outside.told c.put_lines.new.outside in
    IfErr-three c.put_lines.result
    (λ many fault calls part. ends_cut (as_words c.args.words.now) old new middle c.admit_listed.new.table c.make_rounds.new.table c.in_ok-admit_listed.ensures.ok
    c.in_ok-make_rounds.ensures.made many
    (subst (λ o. HoldsPrefix o (new.holds Port.Log) (lines_of c.make_rounds.new.table)) (c.admit_listed.ensures.only.held Port.Log) part)
    (subst (λ n. IsPutFault n (new.port_faults Port.Log) many) (c.admit_listed.ensures.only.counts Port.Log) fault) calls)
    c.put_lines.ensures.fault c.put_lines.ensures.calls_cut c.put_lines.ensures.err
