-- A stream and a lane, read off how they are kept.
use Rattle.seen_streams.specs.Acks.{Acked}
use Rattle.seen_streams.specs.Shows.{LaneKept, StreamKept, lane_of, stream_of}

abbrev pub acked_of : StreamKept → LaneKept → Acked
acked_of stream lane = record { stream = stream_of stream; lane = lane_of lane }
