use Rattle.std.proofs.Common.{◌∙◌, sym}
use Rattle.seen_streams.specs.Shows.{lane_of}
use Rattle.seen_streams.proofs.Counting.{counted}
use Rattle.seen_streams.proofs.ends.unmapped_from.Goals as goal

pub returns-clause-counted : goal.returns-clause-counted
returns-clause-counted c =
    c.count_if.ensures.value
    ∙ sym (counted (lane_of c.args.lane.now) c.args.from c.args.to c.seen_from-seen.result c.places_from-placed.result c.seen_from-seen.ensures c.places_from-placed.ensures)
