use Rattle.std.proofs.Common.{◌≡◌, ◌++◌, drop}
use Rattle.std.specs.List.{flat_map}
use Rattle.link_trace.specs.Points.{seen_at, seen_of}
use Rattle.link_trace.proofs.points.all_seen.Given as goal

abbrev pub invariant-loop-sent : goal.invariant-loop-sent
invariant-loop-sent l =
    l.seen.items ++ flat_map (seen_of l.side l.paths l.end) (drop l.sent-index l.trace) ≡ seen_at l.side l.paths l.end l.trace
