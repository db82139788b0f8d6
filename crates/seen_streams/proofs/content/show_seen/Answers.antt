use Rattle.std.proofs.Common.{◌∙◌, ◌-◌, Some, ap, arith}
use Rattle.seen_streams.specs.Content.{octet_of}
use Rattle.seen_streams.specs.Shows.{lane_of, stream_of}
use Rattle.seen_streams.specs.State.{place_of}
use Rattle.seen_streams.proofs.Walks.{nowhere, somewhere}
use Rattle.seen_streams.proofs.content.show_seen.Goals as goal

pub returns-in_default-clause-shown : goal.returns-in_default-clause-shown
returns-in_default-clause-shown c =
    let lane = lane_of c.args.lane.now in
    nowhere (place_of lane) (λ p. Some (octet_of lane p)) c.args.shower.now.acknowledged c.args.shower.now.packet c.args.from c.args.to
    (stream_of c.args.stream.now) c.places_from-placed.result c.places_from-placed.ensures c.in_default.is

pub returns-clause-shown : goal.returns-clause-shown
returns-clause-shown c =
    let lane = lane_of c.args.lane.now in
    let part = c.held_from-part.ensures in
    c.in_ok-show.ensures
    ∙ somewhere (place_of lane) (λ p. Some (octet_of lane p)) c.args.shower.now.acknowledged c.args.shower.now.packet c.args.from c.args.to
    (stream_of c.args.stream.now) c.places_from-placed.result c.places_from-placed.ensures c.in-Some.place (c.held_from-part.result.end - c.args.from)
    c.held_from-part.result.octets.now c.in-Some.is part.few (omega (arith, part.some, part.within)) (λ i h. ap Some (part.held i h))
