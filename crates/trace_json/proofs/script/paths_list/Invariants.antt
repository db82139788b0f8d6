use Rattle.std.proofs.Common.{◌≡◌, ◌++◌, drop, map}
use Rattle.serde_json.specs.View.{view}
use Rattle.trace_json.specs.Scripts.{paths_data}
use Rattle.trace_json.proofs.script.paths_list.Given as goal

abbrev pub invariant-loop-line : goal.invariant-loop-line
invariant-loop-line l = map view l.list.items ++ paths_data (drop l.line-index l.lines) ≡ paths_data l.lines
