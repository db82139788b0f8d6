use Rattle.std.proofs.Common.{◌≡◌, ◌++◌, drop}
use Rattle.link_trace.specs.Intervals.{all_shares, shares_behind}
use Rattle.link_trace.proofs.intervals.all_shares.Given as goal

abbrev pub invariant-loop-segment : goal.invariant-loop-segment
invariant-loop-segment l =
    l.shares.items ++ shares_behind l.path l.edge l.places (drop l.segment-index l.direction) ≡ all_shares l.path l.direction
