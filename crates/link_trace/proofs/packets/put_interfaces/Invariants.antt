use Rattle.std.proofs.Common.{◌≡◌, ◌-◌, ◌++◌}
use Rattle.pcap_text.specs.Blocks.{capture_text}
use Rattle.link_trace.specs.Captures.{interfaces}
use Rattle.link_trace.proofs.packets.put_interfaces.Given as goal

abbrev pub invariant-loop-path : goal.invariant-loop-path
invariant-loop-path l =
    l.capture.items ++ capture_text (interfaces (l.paths - l.path) l.path)
    ≡ l.initial.capture.items ++ capture_text (interfaces l.paths 0)
