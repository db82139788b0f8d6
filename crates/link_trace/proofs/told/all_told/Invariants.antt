use Rattle.std.proofs.Common.{◌≡◌, ◌++◌, drop, map, string_bytes}
use Rattle.link_trace.specs.Told.{all_told}
use Rattle.link_trace.proofs.told.all_told.Given as goal

abbrev pub invariant-loop-sent : goal.invariant-loop-sent
invariant-loop-sent l = map string_bytes l.told.items ++ all_told l.checksums l.initials l.trace (drop l.sent-index l.trace) ≡ all_told l.checksums l.initials l.trace l.trace
