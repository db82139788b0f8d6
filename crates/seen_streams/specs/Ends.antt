-- What is told of a stream and of a lane at the end.
use Rattle.std.specs.Prelude.{ℕ, zero, suc, ◌+◌, ◌&&◌, is_none, if◌then◌else◌}
use Rattle.seen_streams.specs.declared.ends.Counts.{Counts}
use Rattle.seen_streams.specs.State.{LaneValue, StreamValue, place_of}

abbrev pub counts_of : StreamValue → Counts
counts_of stream = record {
  keys = stream.keys;
  joins = stream.joins;
  mappings = stream.mappings;
  sums = stream.sums;
  data_acks = stream.data_acks;
}

-- how many of so many positions from one on were seen and have no place
abbrev pub unmapped : LaneValue → ℕ → ℕ → ℕ
unmapped lane position zero = 0
unmapped lane position (suc count) =
    (if lane.seen position && is_none (place_of lane position) then 1 else 0) + unmapped lane (position + 1) count
