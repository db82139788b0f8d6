use Rattle.seen_octets.specs.Octets.{AreAlike}
use Rattle.seen_octets.proofs.octet.first_difference.Given as goal

abbrev pub invariant-loop-index : goal.invariant-loop-index
invariant-loop-index l = AreAlike l.one l.other l.index
