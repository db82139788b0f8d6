use Rattle.std.proofs.Common.{◌≡◌, drop}
use Rattle.seen_streams.specs.Shows.{lane_of}
use Rattle.seen_streams.specs.Sums.{with_sums}
use Rattle.seen_streams.proofs.sums.add_sums.Given as goal

abbrev pub invariant-loop-mapping : goal.invariant-loop-mapping
invariant-loop-mapping l = with_sums l.packet (drop l.mapping-index l.mappings) (lane_of l.lane) ≡ with_sums l.packet l.mappings (lane_of l.fn.lane)
