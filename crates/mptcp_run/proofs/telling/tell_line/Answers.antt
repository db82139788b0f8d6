use Rattle.std.proofs.Common.{◌∙◌, subst, inr, arith}
use Rattle.outside_kit.specs.declared.port.Port.TheVariants.{Log}
use Rattle.outside_kit.specs.Outside.{HoldsPrefix}
use Rattle.run_words.specs.Lines.{as_line}
use Rattle.run_outside.specs.Plan.{first_loads}
use Rattle.mptcp_run.specs.Telling.{enough_line, enough_put}
use Rattle.run_outside.proofs.Calls.{short_then}
use Rattle.run_outside.proofs.PortsLemmas.{fault_after}
use Rattle.mptcp_run.proofs.telling.tell_line.Goals as goal

pub returns-in-Err-put_enough-clause-refused : goal.returns-in-Err-put_enough-clause-refused
returns-in-Err-put_enough-clause-refused g c =
    let old = g.O.Outside.told c.args.outside.now in let middle = g.O.Outside.told c.load_enough.new.outside in let new = g.O.Outside.told c.put_enough.new.outside in
    let read = c.in-Ok.ensures in let cut = c.in-Err-put_enough.ensures in let status = c.in-Err-put_enough.status in let enough = c.in-Ok.enough in
    inr (record {
      within = read.within;
      script = read.valid;
      enough = enough;
      are = read.value;
      cause = fault_after old.port_faults middle.port_faults new.port_faults status (λ p. let same = (read.loads.untouched p).1 in omega (arith, same)) cut.puts.fault;
      log = subst (λ held. HoldsPrefix held (new.holds Log) (enough_line enough)) (read.loads.untouched Log).0 cut.err;
      others = λ other not_log. cut.other_ports other not_log ∙ (read.loads.untouched other).0;
      calls = short_then (first_loads (as_line c.args.line.now)) (enough_put enough) status old.calls middle.calls new.calls read.loads.made cut.short;
    })
