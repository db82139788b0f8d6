-- How many records A's end of path 0 has as B's end may send a DSS first: some of them may be lost, since a segment that overtakes A's first piece comes
-- to an end that has no key of A's, and drops its payload (RFC 8684, section 3.1).
use Rattle.std.specs.Prelude.{ℕ, ◌≡◌, ◌≤◌, if◌then◌else◌, Option, None, Some, List, [], ◌∷◌, ◌++◌, length, slice_get}
use Rattle.sides.specs.declared.side.Side.{Side}
use Rattle.path_core.specs.Codec.{Codec}
use Rattle.path_core.specs.Octets.{octets}
use Rattle.path_core.specs.State.{PathState}
use Rattle.path_core.specs.Values.{values}
use Rattle.world_laws.specs.Actors.{ActorCrew}
use Rattle.world_laws.specs.Members.{of_kind}
use Rattle.world_laws.specs.Openings.{PathPlan, Start, opened_world}
use Rattle.world_laws.specs.Promises.{HasRoom, NumbersFit}
use Rattle.world_laws.specs.Worlds.{Turn, WorldState, after_turn}
use Rattle.whole_paths.specs.Directions.{OwesAlong}
use Rattle.whole_paths.specs.OnePathScripts.{BeginsWithOnePath}
use Rattle.whole_paths.specs.OpenFirst.{HasJustOpened}

-- the number, or this one where there is none
abbrev pub or_else : Option ℕ → ℕ → ℕ
or_else (Some n) m = n
or_else None m = m

module _ {C : Type 0} where
  -- the records of A's end, where B's may send a DSS
  abbrev pub early_on : PathState C → Option ℕ
  early_on p = if p.b.modes.clear then Some (length p.a.tcp.send.records) else None

  abbrev pub early_in : Option (ActorCrew C) → Option ℕ
  early_in (Some c) = of_kind (λ app. None) early_on c.member
  early_in None = None

  -- of path 0, at the first of these moments at which it may; none where it never may
  abbrev pub early_from : Codec C → List Turn → WorldState C → ℕ
  early_from k [] w = or_else (early_in (slice_get w.crew 2)) 0
  early_from k (turn ∷ turns) w = or_else (early_in (slice_get w.crew 2)) (early_from k turns (after_turn k turn w))

  -- of a connection, by these turns
  abbrev pub early : Codec C → Start → List Turn → ℕ
  early k start turns = early_from k turns (opened_world start)

  -- it never falls
  abbrev pub EarlyNeverFalls : Codec C → Type 0
  EarlyNeverFalls k = (start : Start) (turns more : List Turn) → early k start turns ≤ early k start (turns ++ more)

-- over octets it is as much
abbrev pub EarlyOverOctets : Type 0
EarlyOverOctets = (start : Start) (turns : List Turn) → HasRoom start → NumbersFit start → early octets start turns ≡ early values start turns

-- As path 0 opens no more is owed along either direction.
abbrev pub OpensOwingRecords : Type 0
OpensOwingRecords = (start : Start) (plan : PathPlan) (turns : List Turn) (s : Side) → BeginsWithOnePath start plan → HasJustOpened start turns
    → (debts : ℕ) × OwesAlong start s debts turns × (debts ≤ early values start turns)
