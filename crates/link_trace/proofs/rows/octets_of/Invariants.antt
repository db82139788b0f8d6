use Rattle.std.proofs.Common.{◌≡◌, ◌+◌, ◌<◌, ◌^◌, drop}
use Rattle.link_trace.specs.Rows.{capped, octets_of}
use Rattle.link_trace.proofs.rows.octets_of.Given as goal

abbrev pub invariant-loop-segment : goal.invariant-loop-segment
invariant-loop-segment l = record {
  fits : l.octets < 2 ^ 64;
  sum : capped (l.octets + octets_of (drop l.segment-index l.row)) ≡ capped (octets_of l.row);
}
