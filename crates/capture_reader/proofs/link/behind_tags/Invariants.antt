use Rattle.std.proofs.Common.{◌≡◌, length}
use Rattle.capture_reader.specs.Link.{behind_tags}
use Rattle.capture_reader.proofs.link.behind_tags.Given as goal

abbrev pub invariant-loop-rest : goal.invariant-loop-rest
invariant-loop-rest l = behind_tags l.kind l.rest ≡ behind_tags l.fn.first l.fn.octets

abbrev pub decreases-loop-rest : goal.decreases-loop-rest
decreases-loop-rest l = length l.rest
