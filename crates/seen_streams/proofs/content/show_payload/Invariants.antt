use Rattle.std.proofs.Common.{◌≡◌, ◌-◌, ◌≤◌, max}
use Rattle.seen_streams.specs.Content.{in_payload, payload_of, shown_from}
use Rattle.seen_streams.specs.Shows.{lane_of, stream_of}
use Rattle.seen_streams.specs.State.{place_of}
use Rattle.seen_streams.proofs.content.show_payload.Given as goal

abbrev pub invariant-loop-position : goal.invariant-loop-position
invariant-loop-position l = record {
  begun : l.payload.from ≤ l.position;
  within : l.position ≤ max l.payload.from l.payload.to;
  shown : stream_of l.stream
      ≡ shown_from (place_of (lane_of l.lane)) (in_payload (payload_of l.payload)) l.shower.acknowledged l.shower.packet
      l.payload.from (l.position - l.payload.from) (stream_of l.fn.stream);
}

abbrev pub decreases-loop-position : goal.decreases-loop-position
decreases-loop-position l = l.payload.to - l.position
