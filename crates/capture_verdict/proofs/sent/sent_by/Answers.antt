use Rattle.std.proofs.Common.{arith}
use Rattle.seen_streams.specs.Shows.{stream_of}
use Rattle.capture_verdict.proofs.Pieces.{piece_grows}
use Rattle.capture_verdict.proofs.sent.sent_by.Goals as goal

pub loop-part-preserved : goal.loop-part-preserved
loop-part-preserved c =
    piece_grows (stream_of c.args.stream.now).octet c.len.result c.loop-part.octets.items c.octets_from-part.result.now _ (omega (arith, c.len.ensures, c.loop-part.octets.ok.0)) c.in_ok-extend_from_slice.ensures.items
    c.loop-part.invariant c.octets_from-part.ensures.held
