use Rattle.run_words.specs.Lines.{as_line}
use Rattle.mptcp_run.proofs.Taken.{nothing_taken, memory_alone}
use Rattle.mptcp_run.proofs.top_call.perform.Goals as goal

pub returns-in_default-clause-early : goal.returns-in_default-clause-early
returns-in_default-clause-early g c =
    nothing_taken c.args.turns.now c.args.input.now (as_line c.args.line.now) (g.O.Outside.told c.args.outside.now)

pub returns-in_default-clause-fault : goal.returns-in_default-clause-fault
returns-in_default-clause-fault g c = memory_alone c.args.turns.now (g.O.Outside.told c.args.outside.now).port_faults (g.O.Outside.told c.args.outside.now).port_faults
