-- A copy carries the segment as a value, with its payload as the link left it, which side sent it, and whether its options were taken
-- away on the way. It is heard as it was meant: the machine that theorems speak of.
use Rattle.std.specs.Prelude.{Bool, true, false, if◌then◌else◌, Option, Some, []}
use Rattle.sides.specs.declared.side.Side.{Side}
use Rattle.segment_wire.specs.Changes.{with_turned_bit}
use Rattle.path_segments.specs.declared.expected.Expected.{Expected}
use Rattle.path_segments.specs.declared.spelling.Spelling.{Spelling}
use Rattle.path_segments.specs.Spelled.{PlainSegment}
use Rattle.path_segments.specs.Laws.{meant}
use Rattle.path_segments.specs.Heard.{HeardSegment}
use Rattle.path_core.specs.Codec.{Codec}
use Rattle.path_core.specs.Octets.{sum_of}

pub record Carried : Type 0 where
  pub from : Side
  pub segment : PlainSegment
  pub stripped : Bool

-- a segment as it leaves the side
abbrev pub carried_by : Spelling → Side → PlainSegment → Carried
carried_by spelling s segment = record { from = s; segment = segment; stripped = false }

-- the segment that arrives: without its options where these were taken away
abbrev pub as_arrived : Carried → PlainSegment
as_arrived carried = record carried.segment { options = (if carried.stripped then [] else carried.segment.options) }

-- every number is heard as it was meant
abbrev pub read : Spelling → Side → Expected → Carried → Option HeardSegment
read spelling s expected carried = Some (meant (as_arrived carried))

-- the link's two changes
abbrev pub stripped : Carried → Carried
stripped carried = record carried { stripped = true }

-- one bit of its payload is turned
abbrev pub altered : Carried → Carried
altered carried = record carried { segment = record carried.segment { payload = with_turned_bit carried.segment.payload } }

abbrev pub values : Codec Carried
values = record {
  makes = carried_by;
  reads = read;
  sum = sum_of;
  strips = λ spelling s carried. stripped carried;
  alters = λ spelling s carried. altered carried;
}
