use Rattle.std.proofs.Common.{◌≡◌, length}
use Rattle.capture_reader.specs.Internet.{behind_extensions}
use Rattle.capture_reader.proofs.internet.behind_extensions.Given as goal

abbrev pub invariant-loop-rest : goal.invariant-loop-rest
invariant-loop-rest l = behind_extensions l.kind 0 l.rest ≡ behind_extensions l.fn.first 0 l.fn.payload

abbrev pub decreases-loop-rest : goal.decreases-loop-rest
decreases-loop-rest l = length l.rest
