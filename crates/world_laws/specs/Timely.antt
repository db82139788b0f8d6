-- How many rounds a path has begun: each leaves its actor a step at least.
use Rattle.std.specs.Prelude.{ℕ, ◌≡◌, ◌+◌, ◌*◌, ◌^◌, ◌≤◌, true, Some, length, slice_get}
use Rattle.actor_desk.specs.Words.{is_nil}
use Rattle.path_core.specs.State.{PathState}
use Rattle.world_laws.specs.declared.member.Member.TheVariants.{App, Path}
use Rattle.world_laws.specs.Members.{HoldsOfKind}
use Rattle.world_laws.specs.Actors.{Actor, ActorCrew}
use Rattle.world_laws.specs.Worlds.{WorldState}

-- With so many steps: a round is 100 ticks, and the first one ends at tick 100. While the turn isn't over the round's own step
-- may still come.
pub record IsTimely {C : Type 0} (steps : ℕ) (p : PathState C) : Type 0 where
  pub begun : p.until ≤ 100 * steps + 100
  pub over : is_nil p.agenda ≡ true → p.until ≤ 100 * steps

module _ {C : Type 0} where
  abbrev pub IsTimelyMember : ℕ → Actor C → Type 0
  IsTimelyMember steps (App a) = Unit {0}
  IsTimelyMember steps (Path p) = IsTimely steps p

  -- 2^57 rounds at most were begun
  abbrev pub CanBegin : Actor C → Type 0
  CanBegin = HoldsOfKind (λ app. Unit {0}) (λ path. path.until ≤ 100 * 2 ^ 57)

  -- each path has a step for every round that it began, but for the one that goes on
  pub record EachRoundHasAStep (w : WorldState C) : Type 0 where
    pub each : (actor : ℕ) (c : ActorCrew C) → slice_get w.crew actor ≡ Some c → IsTimelyMember (length c.list) c.member
