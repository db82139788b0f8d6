use Rattle.std.proofs.Common.{◌≡◌, ◌++◌, string_bytes, drop}
use Rattle.std.specs.List.{flat_map}
use Rattle.link_trace.specs.Lines.{line_of, lines_of}
use Rattle.link_trace.proofs.text.lines.Given as goal

abbrev pub invariant-loop-sent : goal.invariant-loop-sent
invariant-loop-sent l =
    string_bytes l.text ++ flat_map (line_of l.checksums l.initials l.trace) (drop l.sent-index l.trace) ≡ lines_of l.checksums l.initials l.trace
