use Rattle.std.proofs.Common.{◌≡◌, ℕ, ◌-◌, ◌^◌, ◌<◌, length}
use Rattle.actor_turn.specs.Turns.{Went}
use Rattle.actor_turn.proofs.turning.steps.Given as goal

-- the steps so far
abbrev pub invariant-loop-refusal : goal.invariant-loop-refusal
invariant-loop-refusal g l =
    Went g.A.Actor.asks g.A.Actor.takes l.initial.crew l.crew (g.D.Desk.notes l.initial.desk) (g.D.Desk.notes l.desk)
    × (length l.initial.crew.list < 2 ^ 57 → length l.crew.list < 2 ^ 57)
    × (g.D.Desk.origin l.desk ≡ g.D.Desk.origin l.initial.desk)
    × (g.D.Desk.root l.desk ≡ g.D.Desk.root l.initial.desk)
    × ((actor : ℕ) → g.D.Desk.serves l.initial.desk actor → g.D.Desk.serves l.desk actor)

-- stamps rise, and are below 2^62
abbrev pub decreases-loop-refusal : goal.decreases-loop-refusal
decreases-loop-refusal g l = 2 ^ 62 - l.crew.pass.stamp
