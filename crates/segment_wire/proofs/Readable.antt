-- What was read can be written again.
use Rattle.std.proofs.Common.{◌≡◌, ◌∙◌, sym, ap, ℕ, ◌<◌, List, Result, Ok, get_or}
use Rattle.segment_wire.specs.declared.head.Addresses.{Addresses}
use Rattle.segment_wire.specs.declared.reading.SegmentFault.{SegmentFault}
use Rattle.segment_wire.specs.declared.reading.SegmentRef.{SegmentRef}
use Rattle.segment_wire.specs.Segment.{CanWrite}
use Rattle.segment_wire.specs.Reading.{segment_meaning, segment_of, as_segment}
use Rattle.segment_wire.proofs.Rewritten.{written_again}

pub CanWrite-read : (addresses : Addresses) (octets : List ℕ) (result : Result SegmentRef SegmentFault) (segment : SegmentRef) → ((i : ℕ) → get_or octets i 0 < 256)
    → as_segment result ≡ segment_meaning addresses octets → result ≡ Ok segment → CanWrite (segment_of segment)
CanWrite-read addresses octets result segment small read is = (written_again addresses octets (segment_of segment) small (sym read ∙ ap as_segment is)).0
