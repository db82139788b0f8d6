use Rattle.std.proofs.Common.{◌≡◌, ◌++◌, drop}
use Rattle.link_trace.specs.Rows.{rows_behind, rows_of}
use Rattle.link_trace.proofs.rows.rows_of.Given as goal

abbrev pub invariant-loop-path : goal.invariant-loop-path
invariant-loop-path l = l.rows.items ++ rows_behind l.path (drop l.path l.rates) l.carried ≡ rows_of l.rates l.carried
