use Rattle.std.proofs.Common.{◌≡◌, ◌++◌, drop}
use Rattle.link_trace.specs.Carrying.{all_carried, carried_behind}
use Rattle.link_trace.proofs.carried.all_carried.Given as goal

abbrev pub invariant-loop-sent : goal.invariant-loop-sent
invariant-loop-sent l =
    l.carried.items ++ carried_behind l.base l.initials l.shifts.items (drop l.sent-index l.trace) ≡ all_carried l.base l.initials l.trace
