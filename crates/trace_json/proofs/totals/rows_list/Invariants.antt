use Rattle.std.proofs.Common.{◌≡◌, ◌++◌, drop, map}
use Rattle.serde_json.specs.View.{view}
use Rattle.trace_json.specs.Totals.{rows_data}
use Rattle.trace_json.proofs.totals.rows_list.Given as goal

abbrev pub invariant-loop-row : goal.invariant-loop-row
invariant-loop-row l = map view l.list.items ++ rows_data (drop l.row-index l.rows) ≡ rows_data l.rows
