use Rattle.std.proofs.Common.{◌≡◌, ◌+◌, length}
use Rattle.ones_sum.specs.Words.{word_sum}
use Rattle.ones_sum.proofs.words.last_words.Given as goal

abbrev pub invariant-loop-rest : goal.invariant-loop-rest
invariant-loop-rest l = l.total + word_sum l.rest ≡ word_sum l.octets

abbrev pub decreases-loop-rest : goal.decreases-loop-rest
decreases-loop-rest l = length l.rest
