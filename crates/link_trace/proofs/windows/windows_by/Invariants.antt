use Rattle.std.proofs.Common.{◌≡◌, ◌++◌, drop}
use Rattle.link_trace.specs.Windows.{windows_by, windows_from}
use Rattle.link_trace.proofs.windows.windows_by.Given as goal

abbrev pub invariant-loop-index : goal.invariant-loop-index
invariant-loop-index l =
    l.windows.items ++ windows_from l.side l.paths l.every l.ticks l.index (drop l.index l.measured)
    ≡ windows_by l.side l.paths l.every l.ticks l.measured
