use Rattle.std.proofs.Common.{◌≡◌, ◌++◌, drop, map}
use Rattle.serde_json.specs.View.{view}
use Rattle.trace_json.specs.Multipath.{ids_data}
use Rattle.trace_json.proofs.multipath.ids_list.Given as goal

abbrev pub invariant-loop-id : goal.invariant-loop-id
invariant-loop-id l = map view l.list.items ++ ids_data (drop l.id-index l.ids) ≡ ids_data l.ids
