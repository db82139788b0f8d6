-- Short waits, in which a unit is made: they begin where nothing is to be mended, and twenty rounds in which nothing is bring a unit more.
use Rattle.std.specs.Prelude.{ℕ, ◌+◌, ◌<◌, ◌≤◌, ◌⊎◌, List}
use Rattle.path_core.specs.Values.{values}
use Rattle.world_laws.specs.Openings.{PathPlan, Start}
use Rattle.world_laws.specs.RoundDone.{reached}
use Rattle.world_laws.specs.Worlds.{Turn}
use Rattle.whole_paths.specs.Counts.{Counts}
use Rattle.whole_paths.specs.Courses.{round_end}
use Rattle.whole_paths.specs.Debts.{AreMended, AwaitsEither, DebtsAreMendedBy, ShortWaits, long_wait}
use Rattle.whole_paths.specs.OnePathScripts.{BeginsWithOnePath}
use Rattle.whole_paths.specs.SharpCourses.{SharpExchanges, most_units, price, units}
use Rattle.whole_paths.specs.Unmended.{Owes}
use Rattle.whole_paths.specs.UnitRounds.{IsAllWell, WaitsSince, WellRounds, WhatIsToldIsHeard}

module _ (start : Start) (plan : PathPlan) (Owes : ℕ → List Turn → Type 0) where
  -- A wait of 21 rounds: it begins as the next round is over, or it goes on since a round was over.
  pub data IsTimed (read x : ℕ) (turns : List Turn) : Type 0 where
    later : round_end values start turns + 2100 ≤ x → IsTimed read x turns
    since : (rounds : ℕ) (v : List Turn) → WaitsSince start (Owes 0) rounds v turns → rounds ≤ 19 → round_end values start v + 2100 ≤ x
        → read ≤ units start plan (reached values start v) → units start plan (reached values start v) < most_units start plan → IsTimed read x turns

  -- twenty rounds without debts bring a unit more, unless there are as many as can be
  abbrev pub MakesUnits : Type 0
  MakesUnits = (v u : List Turn) → WellRounds start (Owes 0) 20 v u
      → (most_units start plan ≤ units start plan (reached values start v))
      ⊎ (units start plan (reached values start v) < units start plan (reached values start u))

module _ (start : Start) (plan : PathPlan) (count : List Turn → ℕ) (Owes : ℕ → List Turn → Type 0) where
  -- So many ticks are paid by this one: 23 rounds by a unit more, and the others by units and by harms that are mended.
  pub record WaitsForAUnit (n x : ℕ) (turns : List Turn) : Type 0 where
    pub harms : ℕ
    pub debts : ℕ
    pub owes : Owes debts turns
    pub few : harms + debts ≤ count turns
    pub read : ℕ
    pub so_far : read ≤ units start plan (reached values start turns)
    pub more : read < most_units start plan
    pub enough : n ≤ price read harms + 2300
    pub timed : IsTimed start plan Owes read x turns

-- so short waits are as they are to be where debts are mended
abbrev pub UnitsAreAwaited : Type 1
UnitsAreAwaited = (start : Start) (plan : PathPlan) (most : ℕ) (paid count : List Turn → ℕ) (Owes : ℕ → List Turn → Type 0)
    (Mends : ℕ → ℕ → List Turn → Type 0) → BeginsWithOnePath start plan → Counts start paid count
    → DebtsAreMendedBy start plan most count Owes Mends long_wait → MakesUnits start plan Owes
    → ShortWaits start plan most count Owes Mends (WaitsForAUnit start plan count Owes) paid

-- So exchanges go on as `patience` asks where debts are mended, where all is well without any, and where what is told is heard then.
abbrev pub ExchangesGoOnSo : Type 1
ExchangesGoOnSo = (start : Start) (plan : PathPlan) (most : ℕ) (paid count : List Turn → ℕ) (Owes : ℕ → List Turn → Type 0)
    (Mends : ℕ → ℕ → List Turn → Type 0) → BeginsWithOnePath start plan → Counts start paid count
    → DebtsAreMendedBy start plan most count Owes Mends long_wait → ((turns : List Turn) → Owes 0 turns → IsAllWell start turns)
    → WhatIsToldIsHeard start plan (Owes 0)
    → SharpExchanges start plan paid most (AreMended start plan most count Owes)
    (AwaitsEither start plan most count Owes Mends (WaitsForAUnit start plan count Owes))

-- Where no debt is, of records that may be lost and of acknowledgements, all is well.
abbrev pub WhatIsNotOwedIsWell : Type 0
WhatIsNotOwedIsWell = (start : Start) (turns : List Turn) → Owes start 0 turns → IsAllWell start turns
