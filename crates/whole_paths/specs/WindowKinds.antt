-- What is left to be shown of windows as a kind of debt, one for each side: whatever holds of a side's window unless it is owed, and what is waited
-- for then.
use Rattle.std.specs.Prelude.{ℕ, ◌+◌, ◌-◌, ◌≤◌, ◌⊎◌, min, true, List, [], ◌∷◌, length}
use Rattle.sides.specs.declared.side.Side.{Side}
use Rattle.sides.specs.declared.side.Side.TheVariants.{A, B}
use Rattle.actor_desk.specs.Words.{pick}
use Rattle.path_core.specs.Values.{values}
use Rattle.world_laws.specs.Openings.{PathPlan, Start}
use Rattle.world_laws.specs.Promises.{written_by}
use Rattle.world_laws.specs.RoundDone.{reached}
use Rattle.world_laws.specs.Worlds.{Turn}
use Rattle.whole_paths.specs.Counts.{CountsAsMuch, with_events}
use Rattle.whole_paths.specs.DebtKinds.{MendsBoth, OwesBoth}
use Rattle.whole_paths.specs.Debts.{MendsSoon}
use Rattle.whole_paths.specs.Delivery.{IsAllThere}
use Rattle.whole_paths.specs.DirectionWaits.{MendsAlong}
use Rattle.whole_paths.specs.Directions.{OwesAlong}
use Rattle.whole_paths.specs.FinDebts.{all_is_acked}
use Rattle.whole_paths.specs.FinsMended.{MendsFin, OwesFin}
use Rattle.whole_paths.specs.News.{one_if}
use Rattle.whole_paths.specs.OnePathScripts.{BeginsWithOnePath, EndsBy}
use Rattle.whole_paths.specs.OneDebt.{MendsAfter, OneIsMendedAfter, OwesOneOf}
use Rattle.whole_paths.specs.PatientPaths.{harms_and_early}
use Rattle.whole_paths.specs.SegmentRounds.{read_after}
use Rattle.whole_paths.specs.SharpCourses.{sharp_allowance}
use Rattle.whole_paths.specs.UnitRounds.{IsAllWell, WellRounds}

-- What counts as a harm: what is paid for, an event that has come from the beginning on, and for either side the moment from which on all bytes of
-- its file are acknowledged.
abbrev pub with_all : Start → List Turn → ℕ
with_all start turns = 1 + one_if (all_is_acked start A turns) + one_if (all_is_acked start B turns) + harms_and_early values start turns

-- the debts along both directions: they are mended first
abbrev pub OwesDirections : Start → ℕ → List Turn → Type 0
OwesDirections start = OwesBoth (OwesAlong start A) (OwesAlong start B)

abbrev pub MendsDirections : Start → ℕ → ℕ → List Turn → Type 0
MendsDirections start = MendsBoth (OwesAlong start A) (MendsSoon (MendsAlong start A)) (OwesAlong start B) (MendsSoon (MendsAlong start B))

module _ (Also : Start → PathPlan → Type 0) (Holds : Start → Side → List Turn → Type 0) (Waits : Start → Side → ℕ → List Turn → Type 0) where
  -- both windows stand as they should, and nothing is owed along both directions
  pub record WindowsStand (start : Start) (turns : List Turn) : Type 0 where
    pub holds : (s : Side) → Holds start s turns
    pub well : IsAllWell start turns

  -- A window is mended within 90,000 ticks where nothing is owed along both directions, by a count of harms and of one event that has come from the
  -- beginning on; and where it stands the side may send, six rounds later, a full segment's payload past what was read, or all of its file.
  pub record WindowsAreMended : Type 0 where
    pub mended : (start : Start) (plan : PathPlan) (most : ℕ) (s : Side) (count : List Turn → ℕ) → BeginsWithOnePath start plan → Also start plan
        → CountsAsMuch start (with_events start ((λ turns. true) ∷ [])) count
        → OneIsMendedAfter start plan most count (OwesDirections start) (Holds start s) (Waits start s) 90000
    pub heard : (start : Start) (plan : PathPlan) (s : Side) (v u : List Turn) → BeginsWithOnePath start plan → Also start plan
        → WellRounds start (WindowsStand start) 6 v u → IsAllThere s (reached values start u)
        ⊎ (min (length (pick s start.file_a start.file_b)) (read_after start s v + (plan.mss - 28)) ≤ (written_by s (reached values start u)).edge)

  -- ---- all kinds but those along directions: DATA_FINs and windows

  module _ (start : Start) where
    abbrev pub OwesWindow : Side → ℕ → List Turn → Type 0
    OwesWindow s = OwesBoth (OwesDirections start) (OwesOneOf (Holds start s))

    abbrev pub MendsWindow : Side → ℕ → ℕ → List Turn → Type 0
    MendsWindow s = MendsSoon (MendsAfter start (OwesDirections start) (MendsDirections start) (Waits start s) 90000)

    abbrev pub OwesWindows : ℕ → List Turn → Type 0
    OwesWindows = OwesBoth (OwesWindow A) (OwesWindow B)

    abbrev pub MendsWindows : ℕ → ℕ → List Turn → Type 0
    MendsWindows = MendsBoth (OwesWindow A) (MendsWindow A) (OwesWindow B) (MendsWindow B)

    abbrev pub OwesFins : ℕ → List Turn → Type 0
    OwesFins = OwesBoth (OwesFin start A) (OwesFin start B)

    abbrev pub MendsFins : ℕ → ℕ → List Turn → Type 0
    MendsFins = MendsBoth (OwesFin start A) (MendsSoon (MendsFin start A)) (OwesFin start B) (MendsSoon (MendsFin start B))

    abbrev pub OwesOthers : ℕ → List Turn → Type 0
    OwesOthers = OwesBoth OwesFins OwesWindows

    abbrev pub MendsOthers : ℕ → ℕ → List Turn → Type 0
    MendsOthers = MendsBoth OwesFins MendsFins OwesWindows MendsWindows

  -- so whole paths end in time
  abbrev pub PathsEndByWindows : Type 0
  PathsEndByWindows = WindowsAreMended → EndsBy Also (harms_and_early values) sharp_allowance
