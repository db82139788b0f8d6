use Rattle.std.proofs.Common.{◌≡◌, ◌-◌, ◌≤◌, max}
use Rattle.seen_streams.specs.Content.{earlier, shown_from}
use Rattle.seen_streams.specs.Shows.{lane_of, stream_of}
use Rattle.seen_streams.specs.State.{place_of}
use Rattle.seen_streams.proofs.content.show_earlier.Given as goal

abbrev pub invariant-loop-position : goal.invariant-loop-position
invariant-loop-position l = record {
  begun : l.from ≤ l.position;
  within : l.position ≤ max l.from l.to;
  shown : stream_of l.stream
      ≡ shown_from (place_of (lane_of l.lane)) (earlier l.learnt.mappings.items l.learnt.has_line (lane_of l.lane)) l.shower.acknowledged l.shower.packet
      l.from (l.position - l.from) (stream_of l.fn.stream);
}

abbrev pub decreases-loop-position : goal.decreases-loop-position
decreases-loop-position l = l.to - l.position
