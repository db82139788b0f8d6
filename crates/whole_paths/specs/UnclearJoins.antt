-- An end of a path that joins, past the handshake, which may send no DSS yet, waits for the answer to its third MP_JOIN (RFC 8684, section 3.2).
use Rattle.std.specs.Prelude.{ℕ, ◌≡◌, ◌≤◌, true, false, Some, IsSome, [], slice_get}
use Rattle.sides.specs.declared.side.Side.{Side}
use Rattle.sides.specs.declared.side.Side.TheVariants.{A}
use Rattle.subflow_tcp.specs.States.{is_dead}
use Rattle.path_core.specs.MpJoin.{is_joined}
use Rattle.path_core.specs.State.{PathState, end_at}
use Rattle.world_laws.specs.Actors.{ActorCrew}
use Rattle.world_laws.specs.Members.{HoldsOfKind}
use Rattle.world_laws.specs.Worlds.{WorldState}
use Rattle.whole_paths.specs.AsFar.{stage}

-- it is A's, and owes that; where the turn is over its timer runs
pub record WaitsForTheFourth {C : Type 0} (s : Side) (p : PathState C) : Type 0 where
  pub at_a : s ≡ A
  pub third : (end_at s p).modes.owes_third ≡ true
  pub timed : p.agenda ≡ [] → IsSome (end_at s p).tcp.timing.timer

abbrev pub WaitsWhereUnclear : {C : Type 0} → PathState C → Type 0
WaitsWhereUnclear p = is_joined p.profile ≡ true → (s : Side) → 3 ≤ stage (end_at s p).tcp.state → is_dead (end_at s p).tcp.state ≡ false → (end_at s p).modes.clear ≡ false → WaitsForTheFourth s p

-- on each path
pub record UnclearJoinsWait {C : Type 0} (w : WorldState C) : Type 0 where
  pub each : (actor : ℕ) (c : ActorCrew C) → slice_get w.crew actor ≡ Some c → HoldsOfKind (λ app. Unit {0}) WaitsWhereUnclear c.member
