use Rattle.std.proofs.Common.{◌≡◌, None, All}
use Rattle.world_vectors.proofs.at_tables.after_rounds.Given as goal

-- rounds are still to be read, and no turn is out
abbrev pub invariant-loop-round : goal.invariant-loop-round
invariant-loop-round g l =
    (goal.iterator-loop-round g).can_next l.round-iterator
    × (goal.iterator-loop-round g).is_finite l.round-iterator
    × All (λ giver. giver ≡ None) l.givers.items
