-- The parts of a segment by its lengths alone, whatever its checksum and its options are.
use Rattle.std.specs.Prelude.{ℕ, List, if◌then◌else◌, Result, Ok, Err}
use Rattle.segment_wire.specs.declared.reading.SegmentFault.{SegmentFault}
use Rattle.segment_wire.specs.declared.reading.SegmentFault.TheVariants.{Short, DataOffset}
use Rattle.segment_wire.specs.Reading.{is_short, has_wrong_offset, segment_in}
use Rattle.segment_wire.specs.Segment.{Segment}

-- the fields, the octets of the options and the payload, or the first fault of the lengths
unfoldable pub parts_meaning : List ℕ → Result Segment SegmentFault
parts_meaning octets =
    if is_short octets then Err Short
    else (if has_wrong_offset octets then Err DataOffset
    else Ok (segment_in octets))
