use Rattle.std.proofs.Common.{◌≡◌, ◌+◌, ◌<◌, ◌^◌, drop}
use Rattle.link_trace.specs.Panels.{octets_on}
use Rattle.link_trace.specs.Rows.{capped}
use Rattle.link_trace.proofs.panels.octets_on.Given as goal

abbrev pub invariant-loop-stroke : goal.invariant-loop-stroke
invariant-loop-stroke l = record {
  fits : l.octets < 2 ^ 64;
  sum : capped (l.octets + octets_on l.path (drop l.stroke-index l.strokes)) ≡ capped (octets_on l.path l.strokes);
}
