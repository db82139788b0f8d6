use Rattle.std.proofs.Common.{◌≡◌, ◌+◌, ◌<◌, ◌^◌, drop}
use Rattle.link_trace.specs.Rows.{capped, total_from}
use Rattle.link_trace.proofs.rows.total_from.Given as goal

abbrev pub invariant-loop-row : goal.invariant-loop-row
invariant-loop-row l = record {
  fits : l.total < 2 ^ 64;
  sum : capped (l.total + total_from l.side l.count (drop l.row-index l.rows)) ≡ capped (total_from l.side l.count l.rows);
}
