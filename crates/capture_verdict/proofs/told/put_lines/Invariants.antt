use Rattle.std.proofs.Common.{◌≡◌, ◌++◌, drop, map}
use Rattle.std.specs.Prelude.{string_bytes}
use Rattle.seen_streams.specs.Shows.{as_broken}
use Rattle.capture_verdict.specs.Report.{line_words}
use Rattle.capture_verdict.proofs.told.put_lines.Given as goal

abbrev pub invariant-loop-one : goal.invariant-loop-one
invariant-loop-one l =
    string_bytes l.text ++ line_words l.side (map as_broken (drop l.one-index l.broken))
    ≡ string_bytes l.fn.text ++ line_words l.side (map as_broken l.broken)
