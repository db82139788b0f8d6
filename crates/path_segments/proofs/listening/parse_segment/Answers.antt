use Rattle.std.proofs.Common.{◌≡◌, sym}
use Rattle.segment_wire.specs.Reading.{segment_of}
use Rattle.path_segments.proofs.Short.{payload_is_short}
use Rattle.path_segments.proofs.listening.parse_segment.Goals as goal

pub heard_segment-requires-clause-payload : goal.heard_segment-requires-clause-payload
heard_segment-requires-clause-payload c = payload_is_short c.args.octets.now (segment_of c.in-Ok.segment) _ (sym c.in-Ok.ensures.exact)
