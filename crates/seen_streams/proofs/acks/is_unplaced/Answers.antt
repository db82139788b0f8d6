use Rattle.std.proofs.Common.{◌∙◌, ◌+◌}
use Rattle.seen_streams.specs.Shows.{lane_of}
use Rattle.seen_streams.specs.State.{place_of}
use Rattle.seen_streams.proofs.Plain.{unplaced}
use Rattle.seen_streams.proofs.acks.is_unplaced.Goals as goal

pub returns : goal.returns
returns c =
    c.has_none.ensures
    ∙ unplaced (place_of (lane_of c.args.lane.now)) c.args.position (c.args.position + 1) c.places_from-stretch.result c.places_from-stretch.ensures
