use Rattle.std.proofs.Common.{◌≡◌, drop, max}
use Rattle.link_trace.specs.Rows.{last_tick}
use Rattle.link_trace.proofs.rows.last_tick.Given as goal

abbrev pub invariant-loop-segment : goal.invariant-loop-segment
invariant-loop-segment l = max l.last (last_tick (drop l.segment-index l.carried)) ≡ last_tick l.carried
