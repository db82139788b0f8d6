use Rattle.std.proofs.Common.{◌≡◌, ◌++◌, drop, map}
use Rattle.serde_json.specs.View.{view}
use Rattle.trace_json.specs.Segments.{beside_of, segments_data, segments_from}
use Rattle.trace_json.proofs.segments.segments_list.Given as goal

abbrev pub invariant-loop-place : goal.invariant-loop-place
invariant-loop-place l =
    map view l.list.items ++ segments_from (beside_of l.beside) l.place (drop l.place l.trace) ≡ segments_data (beside_of l.beside) l.trace
