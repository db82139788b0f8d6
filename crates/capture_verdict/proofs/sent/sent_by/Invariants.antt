use Rattle.std.proofs.Common.{◌-◌, ◌^◌, length}
use Rattle.seen_octets.specs.Octets.{IsPiece}
use Rattle.seen_streams.specs.Shows.{stream_of}
use Rattle.capture_verdict.proofs.sent.sent_by.Given as goal

abbrev pub invariant-loop-part : goal.invariant-loop-part
invariant-loop-part l = IsPiece (stream_of l.stream).octet 0 l.octets.items

abbrev pub decreases-loop-part : goal.decreases-loop-part
decreases-loop-part l = 2 ^ 63 - length l.octets.items
