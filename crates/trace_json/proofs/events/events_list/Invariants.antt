use Rattle.std.proofs.Common.{◌≡◌, ◌++◌, drop, map}
use Rattle.serde_json.specs.View.{view}
use Rattle.trace_json.specs.Events.{events_data}
use Rattle.trace_json.proofs.events.events_list.Given as goal

abbrev pub invariant-loop-line : goal.invariant-loop-line
invariant-loop-line l = map view l.list.items ++ events_data (drop l.line-index l.lines) ≡ events_data l.lines
