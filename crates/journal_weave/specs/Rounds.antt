-- A round that workers made: its steps in one order.
use Rattle.std.specs.Prelude.{ℕ, ◌≡◌, ◌<◌, length, true, Option, Some, None, List}
use Rattle.std.specs.List.{slice_index_or}
use Rattle.actor_desk.specs.declared.actor.Crew.{Crew}
use Rattle.actor_desk.specs.Journals.{order_of}
use Rattle.path_core.specs.Octets.{octets}
use Rattle.actor_turn.specs.Turns.{Turned}
use Rattle.world_laws.specs.Actors.{ActorCrew, member_asks, member_takes}
use Rattle.world_laws.specs.Fine.{lists_of}
use Rattle.world_laws.specs.Weaving.{steps_by}
use Rattle.world_laws.specs.Worlds.{WorldState, all_over, greatest, world_run, AreLawful}

-- The steps of a round: each is one of an actor whose turn hasn't ended, behind the last one each
-- turn has, and they stand by stamp, then actor.
pub record IsWovenRound (actors : List ℕ) (w : WorldState (List ℕ)) : Type 0 where
  pub lawful : AreLawful octets (steps_by actors) w
  pub over : all_over (world_run octets (steps_by actors) w).crew ≡ true
  pub in_order : actors ≡ order_of (greatest 0 w.crew) (lists_of (world_run octets (steps_by actors) w).crew)

-- the steps of a woven round lead from one world to another, where each turn has ended
pub record WeavesTo (w v : WorldState (List ℕ)) (actors : List ℕ) : Type 0 where
  pub round : IsWovenRound actors w
  pub leads : world_run octets (steps_by actors) w ≡ v

-- each actor took its turn, up to where it stopped
pub record HaveTurned (crew after : List (ActorCrew (List ℕ))) : Type 0 where
  pub many : length after ≡ length crew
  pub turned : (i : ℕ) (d : ActorCrew (List ℕ)) → i < length crew
      → Turned (member_asks octets) (member_takes octets) (slice_index_or crew i d) (slice_index_or after i d)

-- ---- on the way

-- the stamp that an actor knows
abbrev pub known_by : {A : Type 0} → Option (Crew A) → ℕ
known_by None = 0
known_by (Some c) = c.pass.stamp
