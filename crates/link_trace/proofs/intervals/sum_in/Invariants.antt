use Rattle.std.proofs.Common.{◌≡◌, ◌+◌, ◌<◌, ◌^◌, drop}
use Rattle.link_trace.specs.Intervals.{sum_in}
use Rattle.link_trace.specs.Rows.{capped}
use Rattle.link_trace.proofs.intervals.sum_in.Given as goal

abbrev pub invariant-loop-share : goal.invariant-loop-share
invariant-loop-share l = record {
  fits : l.sum < 2 ^ 64;
  sum : capped (l.sum + sum_in l.row l.part (drop l.share-index l.shares)) ≡ capped (sum_in l.row l.part l.shares);
}
