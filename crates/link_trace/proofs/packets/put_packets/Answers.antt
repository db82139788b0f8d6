use Rattle.std.proofs.Common.{arith}
use Rattle.pcap_text.specs.Blocks.{block_text}
use Rattle.link_trace.specs.Captures.{packet_of}
use Rattle.link_trace.proofs.Parts.{segment_more}
use Rattle.link_trace.proofs.packets.put_packets.Goals as goal

pub loop-sent-preserved : goal.loop-sent-preserved
loop-sent-preserved c =
    segment_more (λ s. block_text (packet_of c.args.side s)) c.args.trace.now c.loop-sent.sent-index c.sent-item.result c.sent-item.result
    c.loop-sent.capture.items _ _ (omega (arith, c.loop-sent-test.true, c.loop-sent.auto.sent-index-end)) c.sent-item.is c.loop-sent.invariant
    c.in_ok-put_packet.ensures
