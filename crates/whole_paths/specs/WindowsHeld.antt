-- What is left of windows as a kind of debt, where its waits are those of a stall: what holds of a side's window goes on, meets each stall's end,
-- and opens the window.
use Rattle.std.specs.Prelude.{ℕ, ◌+◌, ◌-◌, ◌<◌, ◌≤◌, ◌⊎◌, min, true, List, [], ◌∷◌, ◌++◌, length}
use Rattle.sides.specs.declared.side.Side.{Side}
use Rattle.actor_desk.specs.Words.{pick}
use Rattle.path_core.specs.Values.{values}
use Rattle.world_laws.specs.Openings.{PathPlan, Start}
use Rattle.world_laws.specs.Promises.{written_by}
use Rattle.world_laws.specs.RoundDone.{reached}
use Rattle.world_laws.specs.Worlds.{Turn}
use Rattle.whole_paths.specs.Counts.{CountsAsMuch, with_events}
use Rattle.whole_paths.specs.Delivery.{IsAllThere}
use Rattle.whole_paths.specs.Mending.{IsBegunTurn}
use Rattle.whole_paths.specs.OnePathScripts.{BeginsWithOnePath}
use Rattle.whole_paths.specs.SegmentRounds.{read_after}
use Rattle.whole_paths.specs.UnitRounds.{WellRounds}
use Rattle.whole_paths.specs.WindowKinds.{OwesDirections, WindowsAreMended, WindowsStand}
use Rattle.whole_paths.specs.WindowStalls.{MeetsStalls, Stalls}

-- a stall of the side, that goes on while nothing is owed along both directions
abbrev pub StallsOf : Start → Side → ℕ → List Turn → Type 0
StallsOf start s = Stalls start s (OwesDirections start 0)

module _ (Also : Start → PathPlan → Type 0) (Holds : Start → Side → List Turn → Type 0) where
  -- It goes on by each turn, unless more is counted; each stall ends in it; and six rounds later the side may send a full segment's payload past
  -- what was read, or all of its file.
  pub record WindowsHold : Type 0 where
    pub stays : (start : Start) (plan : PathPlan) (s : Side) (count : List Turn → ℕ) → BeginsWithOnePath start plan → Also start plan
        → CountsAsMuch start (with_events start ((λ turns. true) ∷ [])) count → (turns : List Turn) (turn : Turn) → IsBegunTurn start turns turn
        → Holds start s turns → (count turns < count (turns ++ turn ∷ [])) ⊎ Holds start s (turns ++ turn ∷ [])
    pub meets : (start : Start) (plan : PathPlan) (s : Side) → BeginsWithOnePath start plan → Also start plan → MeetsStalls start s (Holds start s)
    pub heard : (start : Start) (plan : PathPlan) (s : Side) (v u : List Turn) → BeginsWithOnePath start plan → Also start plan
        → WellRounds start (WindowsStand Also Holds StallsOf start) 6 v u → IsAllThere s (reached values start u)
        ⊎ (min (length (pick s start.file_a start.file_b)) (read_after start s v + (plan.mss - 28)) ≤ (written_by s (reached values start u)).edge)

  -- so windows are mended
  abbrev pub WindowsAreMendedSo : Type 0
  WindowsAreMendedSo = WindowsHold → WindowsAreMended Also Holds StallsOf
