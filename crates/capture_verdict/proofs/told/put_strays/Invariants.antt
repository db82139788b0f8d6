use Rattle.std.proofs.Common.{◌≡◌, ◌++◌, drop}
use Rattle.std.specs.Prelude.{string_bytes}
use Rattle.capture_verdict.specs.Report.{strays_words}
use Rattle.capture_verdict.proofs.told.put_strays.Given as goal

abbrev pub invariant-loop-flow : goal.invariant-loop-flow
invariant-loop-flow l = string_bytes l.text ++ strays_words (drop l.flow-index l.flows) ≡ string_bytes l.fn.text ++ strays_words l.flows
