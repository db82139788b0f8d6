use Rattle.std.proofs.Common.{◌≡◌, drop, max}
use Rattle.link_trace.specs.Rows.{most_queued}
use Rattle.link_trace.proofs.rows.most_queued.Given as goal

abbrev pub invariant-loop-segment : goal.invariant-loop-segment
invariant-loop-segment l = max l.most (most_queued (drop l.segment-index l.row)) ≡ most_queued l.row
