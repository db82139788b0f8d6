use Rattle.std.proofs.Common.{◌≤◌, ◌∙◌, ◌-◌, ap, drop, length, arith}
use Rattle.seen_streams.specs.Content.{in_payload, payload_of}
use Rattle.seen_streams.specs.Shows.{lane_of, stream_of}
use Rattle.seen_streams.specs.State.{place_of}
use Rattle.seen_streams.proofs.Walks.{nowhere, payload_comes, somewhere, take_few}
use Rattle.seen_streams.proofs.content.show_part.Goals as goal

pub returns-in_default-clause-shown : goal.returns-in_default-clause-shown
returns-in_default-clause-shown c =
    nowhere (place_of (lane_of c.args.lane.now)) (in_payload (payload_of c.args.payload.now)) c.args.shower.now.acknowledged c.args.shower.now.packet
    c.args.from c.args.payload.now.to (stream_of c.args.stream.now) c.places_from-placed.result c.places_from-placed.ensures c.in_default.is

pub returns-clause-shown : goal.returns-clause-shown
returns-clause-shown c =
    let payload = payload_of c.args.payload.now in
    let n = c.places_from-placed.result.end - c.args.from in
    let part = c.held_between-part.result.now in
    let few : length part ≤ n = omega (arith, ap length c.held_between-part.ensures, take_few n (drop (c.args.from - payload.from) payload.held)) in
    c.in_ok-show.ensures
    ∙ somewhere (place_of (lane_of c.args.lane.now)) (in_payload payload) c.args.shower.now.acknowledged c.args.shower.now.packet
    c.args.from c.args.payload.now.to (stream_of c.args.stream.now) c.places_from-placed.result c.places_from-placed.ensures c.in-Some.place n part
    c.in-Some.is few (omega (arith, c.places_from-placed.ensures.some)) (payload_comes payload c.args.from n part c.requires.begun c.held_between-part.ensures)
