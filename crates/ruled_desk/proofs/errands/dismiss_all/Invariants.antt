use Rattle.std.proofs.Common.{◌≡◌, None, vec_len}
use Rattle.std.specs.Prelude.{All}
use Rattle.ruled_desk.proofs.errands.dismiss_all.Given as goal

-- no turn is out
abbrev pub invariant-loop-giver : goal.invariant-loop-giver
invariant-loop-giver g l = All (λ giver. giver ≡ None) l.givers.items

abbrev pub decreases-loop-giver : goal.decreases-loop-giver
decreases-loop-giver g l = vec_len l.givers
