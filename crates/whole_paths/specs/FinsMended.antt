-- A DATA_FIN that is owed goes again within 60,000 ticks: it is a debt of one that is mended.
use Rattle.std.specs.Prelude.{ℕ, List, [], ◌∷◌}
use Rattle.sides.specs.declared.side.Side.{Side}
use Rattle.world_laws.specs.Openings.{PathPlan, Start}
use Rattle.world_laws.specs.Worlds.{Turn}
use Rattle.whole_paths.specs.Counts.{CountsAsMuch, Lasts, with_events}
use Rattle.whole_paths.specs.DebtKinds.{OwesBoth}
use Rattle.whole_paths.specs.Debts.{DebtsAreMendedBy, FewAreOwedBy}
use Rattle.whole_paths.specs.FinDebts.{FinGoesAfter, FinStandsAfter, all_is_acked}
use Rattle.whole_paths.specs.OneDebt.{MendsAfter, MendsNothing, OneIsMendedAfter, OwesNothing, OwesOneOf}
use Rattle.whole_paths.specs.OnePathScripts.{BeginsWithOnePath}

-- bytes that are acknowledged stay so
abbrev pub WhatIsAckedLasts : Type 0
WhatIsAckedLasts = (start : Start) (plan : PathPlan) (s : Side) → BeginsWithOnePath start plan → Lasts start (all_is_acked start s)

-- the count takes in the segments that are harmed, and once the moment from which on all bytes of the side's file are acknowledged
abbrev pub CountsFins : Start → Side → (List Turn → ℕ) → Type 0
CountsFins start s count = CountsAsMuch start (with_events start (all_is_acked start s ∷ [])) count

-- by such a count a DATA_FIN is mended, whatever else is mended first
abbrev pub FinIsMendedAfter : Type 1
FinIsMendedAfter = (start : Start) (plan : PathPlan) (most : ℕ) (s : Side) (count : List Turn → ℕ) (First : ℕ → List Turn → Type 0)
    → BeginsWithOnePath start plan → CountsFins start s count
    → OneIsMendedAfter start plan most count First (FinStandsAfter start s) (FinGoesAfter start s) 60000

-- ---- as a kind of debt

module _ (start : Start) (s : Side) where
  abbrev pub OwesFin : ℕ → List Turn → Type 0
  OwesFin = OwesBoth OwesNothing (OwesOneOf (FinStandsAfter start s))

  abbrev pub MendsFin : ℕ → ℕ → List Turn → Type 0
  MendsFin = MendsAfter start OwesNothing MendsNothing (FinGoesAfter start s) 60000

-- such debts are mended within 60,100 ticks
abbrev pub FinsAreMended : Type 0
FinsAreMended = (start : Start) (plan : PathPlan) (most : ℕ) (s : Side) (count : List Turn → ℕ) → BeginsWithOnePath start plan → CountsFins start s count
    → DebtsAreMendedBy start plan most count (OwesFin start s) (MendsFin start s) 60100

-- there are no more at any open moment than were counted
abbrev pub FewFinsAreOwed : Type 0
FewFinsAreOwed = (start : Start) (plan : PathPlan) (most : ℕ) (s : Side) (count : List Turn → ℕ) → BeginsWithOnePath start plan
    → CountsFins start s count → FewAreOwedBy start plan most count (OwesFin start s)

-- and without one the DATA_FIN stands as it should
abbrev pub WhoOwesNoFinStands : Type 0
WhoOwesNoFinStands = (start : Start) (s : Side) (turns : List Turn) → OwesFin start s 0 turns → FinStandsAfter start s turns
