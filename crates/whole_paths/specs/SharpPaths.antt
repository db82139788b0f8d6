-- Whole paths deliver both files with `patience`, where besides the debts along both directions what others there are is mended.
use Rattle.std.specs.Prelude.{ℕ, List}
use Rattle.sides.specs.declared.side.Side.{Side}
use Rattle.sides.specs.declared.side.Side.TheVariants.{A, B}
use Rattle.world_laws.specs.Openings.{PathPlan, Start}
use Rattle.world_laws.specs.Worlds.{Turn}
use Rattle.whole_paths.specs.Counts.{Counts}
use Rattle.whole_paths.specs.DebtKinds.{OwesBoth}
use Rattle.whole_paths.specs.Debts.{DebtsAreMendedBy, FewAreOwedBy, OwesAtMostBy, long_wait}
use Rattle.whole_paths.specs.Directions.{OwesAlong}
use Rattle.whole_paths.specs.OnePathScripts.{BeginsWithOnePath, Count, EndsBy}
use Rattle.whole_paths.specs.OpenFirst.{HasJustOpened}
use Rattle.whole_paths.specs.SharpCourses.{PaysForHarms, sharp_allowance}
use Rattle.whole_paths.specs.UnitRounds.{WindowsAndEndsAreHeard}

-- the debts along both directions, and others
abbrev pub OwesAll : Start → (ℕ → List Turn → Type 0) → ℕ → List Turn → Type 0
OwesAll start Other = OwesBoth (OwesAlong start A) (OwesBoth (OwesAlong start B) Other)

-- What is left to be shown, where debts are counted so: as B's end may send a DSS first no more is owed along both directions than was counted;
-- others are mended, and no more are owed; without any of them the windows that are told are heard, and each DATA_FIN comes which is sent.
pub record RestIsMended (start : Start) (plan : PathPlan) (most : ℕ) (paid count : List Turn → ℕ) (Other : ℕ → List Turn → Type 0)
    (MendsOther : ℕ → ℕ → List Turn → Type 0) : Type 0 where
  pub counts : Counts start paid count
  pub opens : (s : Side) (turns : List Turn) → HasJustOpened start turns → OwesAtMostBy start plan most count (OwesAlong start s) turns
  pub others : DebtsAreMendedBy start plan most count Other MendsOther long_wait
  pub few : FewAreOwedBy start plan most count Other
  pub hears : WindowsAndEndsAreHeard start plan (OwesAll start Other 0)

-- Where that is so by each start that is so besides, whole paths deliver both files in time for what is paid for, or an end died early.
abbrev pub SharpPathsEndSo : Type 1
SharpPathsEndSo = (Also : Start → PathPlan → Type 0) (paid : Count) (count : Start → List Turn → ℕ) (Other : Start → ℕ → List Turn → Type 0)
    (MendsOther : Start → ℕ → ℕ → List Turn → Type 0) → PaysForHarms paid
    → ((start : Start) (plan : PathPlan) (most : ℕ) → BeginsWithOnePath start plan → Also start plan
    → RestIsMended start plan most (paid start) (count start) (Other start) (MendsOther start))
    → EndsBy Also paid sharp_allowance
