use Rattle.std.proofs.Common.{◌≡◌, drop}
use Rattle.link_trace.specs.Meanings.{first_syn}
use Rattle.link_trace.proofs.meanings.first_syn.Given as goal

abbrev pub invariant-loop-sent : goal.invariant-loop-sent
invariant-loop-sent l = first_syn l.path l.from (drop l.sent-index l.trace) ≡ first_syn l.path l.from l.trace
