use Rattle.std.proofs.Common.{◌≡◌, ◌+◌, ◌<◌, ◌^◌, drop}
use Rattle.range_marks.specs.Marks.{no_marks}
use Rattle.link_trace.specs.Rows.{capped, again_behind, fresh_behind, moved_behind}
use Rattle.link_trace.proofs.rows.shares_of.Given as goal

abbrev pub invariant-loop-segment : goal.invariant-loop-segment
invariant-loop-segment l = record {
  again_fits : l.again < 2 ^ 64;
  moved_fits : l.moved < 2 ^ 64;
  fresh_fits : l.fresh < 2 ^ 64;
  again : capped (l.again + again_behind l.path l.edge l.places (drop l.segment-index l.direction)) ≡ capped (again_behind l.path 0 no_marks l.direction);
  moved : capped (l.moved + moved_behind l.path l.edge l.places (drop l.segment-index l.direction)) ≡ capped (moved_behind l.path 0 no_marks l.direction);
  fresh : capped (l.fresh + fresh_behind l.path l.places (drop l.segment-index l.direction)) ≡ capped (fresh_behind l.path no_marks l.direction);
}
