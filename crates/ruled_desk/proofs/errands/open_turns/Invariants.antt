use Rattle.std.proofs.Common.{◌≡◌, None}
use Rattle.std.specs.Prelude.{All}
use Rattle.ruled_desk.proofs.errands.open_turns.Given as goal

-- no turn is out, and no worker has one
abbrev pub invariant-loop : goal.invariant-loop
invariant-loop g l = record {
  givers : All (λ giver. giver ≡ None) l.givers.items;
  workers : All (λ worker. worker ≡ None) l.workers.items;
}
