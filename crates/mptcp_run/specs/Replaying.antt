-- A turn of a log, made and put.
use Rattle.std.specs.Prelude.{◌≡◌, ℕ, suc, false, ◌≤◌, ◌⊎◌, List, [], ◌∷◌, map, length, Option}
use Rattle.outside_kit.specs.declared.port.Port.{Port}
use Rattle.outside_kit.specs.Outside.{Told, HasRisen}
use Rattle.stream_lanes.specs.Words.{Every}
use Rattle.world_laws.specs.Fine.{IsFine, lists_of}
use Rattle.world_laws.specs.Worlds.{Turn, is_going, end_round, greatest, IsLawfulTurn}
use Rattle.mptcp_run.specs.declared.rounds.Run.{Run}
use Rattle.run_outside.specs.declared.status.Status.{Status}
use Rattle.run_outside.specs.declared.status.Status.TheVariants.{Put, Memory, Log}
use Rattle.mptcp_run.specs.Adding.{turn_puts}
use Rattle.run_outside.specs.Plan.{AddsAll, AddsCut}
use Rattle.world_core.specs.RoundEnds.{round_ends}
use Rattle.mptcp_run.specs.Rounds.{Begins, HoldsRound, HoldsPart}
use Rattle.mptcp_run.specs.Task.{Connection}
use Rattle.world_core.specs.Weaving.{AllGrewAbove}

-- the round that began with that world goes on
pub record GoesOn (last w : Connection) : Type 0 where
  pub fine : IsFine (greatest 0 last.crew) w
  pub grew : AllGrewAbove (greatest 0 last.crew) (lists_of last.crew) (lists_of w.crew)
  pub known : Every (λ c. greatest 0 last.crew ≤ c.pass.stamp) w.crew

-- in a run whose last round ended with this world
pub record UnderWay (last : Connection) (run : Run) : Type 0 where
  pub stands : run.world.failed ≡ false
  pub begins : Begins last
  pub made_is : run.made.items ≡ map length (lists_of last.crew)
  pub goes_on : GoesOn last run.world.state

-- the world at the last round's end, after a turn
abbrev pub last_after : Turn → Connection → Connection → Connection
last_after (Turn.Step actor) last w = last
last_after Turn.Round last w = end_round w

-- how many rounds were put, after a turn
abbrev pub rounds_after : Turn → ℕ → ℕ
rounds_after (Turn.Step actor) rounds = rounds
rounds_after Turn.Round rounds = suc rounds

-- a turn was made: a step puts nothing
abbrev pub TurnHolds : Option (List ℕ) → ℕ → Turn → Connection → Connection → (Port → Option (List ℕ)) → (Port → Option (List ℕ)) → Type 0
TurnHolds opening number (Turn.Step actor) last w old new = (port : Port) → new port ≡ old port
TurnHolds opening number Turn.Round last w old new = HoldsRound opening number last (end_round w) old new

-- each port holds what it held
abbrev pub IsUnchanged : (Port → Option (List ℕ)) → (Port → Option (List ℕ)) → Type 0
IsUnchanged old new = (port : Port) → new port ≡ old port

-- A turn of a log was cut off, with this status: it wasn't made for want of memory; or it ends a
-- round, and a part of what that puts was put.
abbrev pub TurnCut : Option (List ℕ) → ℕ → Turn → Connection → Connection → Told → Told → Status → Type 0
TurnCut opening number turn last w old new status =
    ((status ≡ Memory) × (IsUnchanged old.holds new.holds × AddsAll [] old.calls new.calls))
    ⊎ (IsLawfulTurn turn w
    × (HoldsPart opening number last [] (round_ends (turn ∷ []) w) old.holds new.holds
    × AddsCut (turn_puts opening number turn last w) status old.calls new.calls))

-- A turn of a log ends a run with this status: it can't be made and stands in this line, or it was
-- cut off.
abbrev pub TurnStops : Option (List ℕ) → ℕ → Turn → Connection → Connection → ℕ → Told → Told → Status → Type 0
TurnStops opening number turn last w line old new (Log at) =
    (at ≡ line) × ((IsLawfulTurn turn w → ⊥) × (IsUnchanged old.holds new.holds × AddsAll [] old.calls new.calls))
TurnStops opening number turn last w line old new (Put port) = TurnCut opening number turn last w old new (Put port)
TurnStops opening number turn last w line old new Memory = TurnCut opening number turn last w old new Memory
TurnStops opening number turn last w line old new status = ⊥

-- a step does
abbrev pub StepFault : ℕ → Connection → ℕ → Status → Type 0
StepFault actor w line (Log at) = (at ≡ line) × (is_going actor w ≡ false)
StepFault actor w line Memory = Unit {0}
StepFault actor w line status = ⊥

-- the device failed at this port, and counted it; or the status is another one
abbrev pub IsReplayFault : (Port → ℕ) → (Port → ℕ) → Status → Type 0
IsReplayFault old new (Put port) = HasRisen (old port) (new port)
IsReplayFault old new (Log line) = Unit {0}
IsReplayFault old new Memory = Unit {0}
IsReplayFault old new status = ⊥

-- the end of a round, as a turn
abbrev pub round_turn : Turn
round_turn = Turn.Round
