use Rattle.std.proofs.Common.{◌≡◌, ◌∙◌, ◌-◌, ◌≤◌, ap, ℕ, max, arith}
use Rattle.std.proofs.lemmas.Result.{on_ok_weaker}
use Rattle.seen_streams.specs.Content.{earlier, payload_of, shown_from}
use Rattle.seen_streams.specs.Shows.{lane_of, mapped_of, stream_of}
use Rattle.seen_streams.specs.State.{LaneValue, place_of}
use Rattle.seen_streams.proofs.Walks.{three_parts}
use Rattle.seen_streams.proofs.content.take_payload.Goals as goal

pub returns-clause-stream : goal.returns-clause-stream
returns-clause-stream c =
    let payload = payload_of c.args.payload.now in
    let lane = lane_of c.keep.new.lane in
    let acknowledged = c.args.shower.now.acknowledged in
    let packet = c.args.shower.now.packet in
    let second = stream_of c.show_payload.new.stream in
    let behind : lane.top ≡ max (lane_of c.args.lane.now).top payload.to = ap (λ (l : LaneValue). l.top) c.in_ok-keep.ensures in
    let top : payload.to ≤ lane.top = omega (arith, behind) in
    on_ok_weaker c.show_earlier-2.result
    (λ last. three_parts payload (mapped_of c.args.stream.now c.args.lane.now c.args.learnt.now) lane acknowledged packet (place_of lane)
    c.requires.begun (omega (arith, c.requires.order)) top (stream_of c.args.stream.now) (stream_of c.show_earlier.new.stream) second
    (stream_of c.show_earlier-2.new.stream) c.in_ok-show_earlier.ensures c.in_ok-show_payload.ensures
    (last ∙ ap (λ (n : ℕ). shown_from (place_of lane) (earlier c.args.learnt.now.mappings.items c.args.learnt.now.has_line lane) acknowledged packet payload.to
    (n - payload.to) second) c.top-top.ensures.value))
    c.show_earlier-2.ensures
