use Rattle.std.proofs.Common.{◌≡◌, ◌++◌, drop}
use Rattle.std.specs.List.{flat_map}
use Rattle.pcap_text.specs.Blocks.{block_text}
use Rattle.link_trace.specs.Captures.{packet_of}
use Rattle.link_trace.proofs.packets.put_packets.Given as goal

abbrev pub invariant-loop-sent : goal.invariant-loop-sent
invariant-loop-sent l =
    l.capture.items ++ flat_map (λ s. block_text (packet_of l.side s)) (drop l.sent-index l.trace)
    ≡ l.initial.capture.items ++ flat_map (λ s. block_text (packet_of l.side s)) l.trace
