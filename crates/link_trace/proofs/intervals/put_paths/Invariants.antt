use Rattle.std.proofs.Common.{◌≡◌, ◌-◌, ◌++◌, string_bytes}
use Rattle.link_trace.specs.Intervals.{paths_from}
use Rattle.link_trace.proofs.intervals.put_paths.Given as goal

abbrev pub invariant-loop-path : goal.invariant-loop-path
invariant-loop-path l =
    string_bytes l.text ++ paths_from l.measured l.paths l.rows l.path (l.paths - l.path) l.carried
    ≡ string_bytes l.initial.text ++ paths_from l.measured l.paths l.rows 0 l.paths l.carried
