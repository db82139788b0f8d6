-- A kind of debt of which there is one at most, by any count and after others: what should hold does, or there was a harm and it is to be mended.
use Rattle.std.specs.Prelude.{ℕ, ◌+◌, ◌≡◌, ◌<◌, ◌≤◌, ◌⊎◌, List, [], ◌∷◌, ◌++◌}
use Rattle.path_core.specs.Values.{values}
use Rattle.world_laws.specs.Openings.{PathPlan, Start}
use Rattle.world_laws.specs.Worlds.{Turn}
use Rattle.whole_paths.specs.Counts.{CountsAsMuch}
use Rattle.whole_paths.specs.Courses.{harmed_so_far, round_end}
use Rattle.whole_paths.specs.DebtKinds.{OwesBoth}
use Rattle.whole_paths.specs.Debts.{Beginning, DebtsAreMendedBy, FewAreOwedBy, Stepping}
use Rattle.whole_paths.specs.Mending.{IsBegunTurn}
use Rattle.whole_paths.specs.Mild.{IsMildStart}
use Rattle.whole_paths.specs.OnePathScripts.{BeginsWithOnePath}
use Rattle.whole_paths.specs.OpenFirst.{HasJustOpened}

-- this holds after these turns, unless one is owed
abbrev pub OwesOneOf : (List Turn → Type 0) → ℕ → List Turn → Type 0
OwesOneOf Holds debts turns = Holds turns ⊎ (1 ≤ debts)

module _ (start : Start) (plan : PathPlan) (most : ℕ) (count : List Turn → ℕ) (First : ℕ → List Turn → Type 0) (Holds : List Turn → Type 0)
    (Waits : ℕ → List Turn → Type 0) where
  -- What is left to be shown of a debt of one that is mended where nothing is owed of a first kind: it holds as the path opens, or something was
  -- counted; from when B's end may send a DSS it goes on to by each turn, unless more is counted; and where nothing is owed of the first kind a wait
  -- begins as a round begins, and goes on by each turn, unless it holds then, or more is counted; and no round begins past one.
  pub record OneIsMendedAfter (within : ℕ) : Type 0 where
    pub opens : (turns : List Turn) → HasJustOpened start turns → Holds turns ⊎ (1 ≤ count turns)
    pub stays : (turns : List Turn) (turn : Turn) → IsBegunTurn start turns turn → Holds turns
        → (count turns < count (turns ++ turn ∷ [])) ⊎ Holds (turns ++ turn ∷ [])
    pub waits_on : (x : ℕ) (v u : List Turn) → Stepping start plan most First v u → First 0 v → Waits x v
        → (count v < count u) ⊎ (Holds u ⊎ Waits x u)
    pub waits_next : (x : ℕ) (v u : List Turn) → Beginning start plan most First v u → First 0 v → Waits x v
        → (count v < count u) ⊎ (Holds u ⊎ Waits x u)
    pub in_time : (x : ℕ) (v u : List Turn) → Beginning start plan most First v u → First 0 v → Waits x v → round_end values start v ≤ x
    pub begins : (v u : List Turn) → Beginning start plan most First v u → First 0 u → Holds u ⊎ Waits (round_end values start v + within) u

-- One less is owed of both. First the first kind's debts are mended, by a tick so long before; then the wait for the other one goes on, or it begins
-- with the next round.
module _ (start : Start) (First : ℕ → List Turn → Type 0) (MendsFirst : ℕ → ℕ → List Turn → Type 0) (Waits : ℕ → List Turn → Type 0)
    (within : ℕ) where
  pub data MendsAfter (debts x : ℕ) (turns : List Turn) : Type 0 where
    first : 0 < debts → (by : ℕ) → by + 100 + within ≤ x → round_end values start turns ≤ by + 100 → MendsFirst debts by turns
        → MendsAfter debts x turns
    later : debts ≡ 1 → First 0 turns → round_end values start turns + within ≤ x → MendsAfter debts x turns
    waits : debts ≡ 1 → First 0 turns → (by : ℕ) → by ≤ x → Waits by turns → MendsAfter debts x turns

-- where debts of the first kind are mended
abbrev pub OneDebtIsMendedAfter : Type 1
OneDebtIsMendedAfter = (start : Start) (plan : PathPlan) (most before within : ℕ) (count : List Turn → ℕ) (First : ℕ → List Turn → Type 0)
    (MendsFirst : ℕ → ℕ → List Turn → Type 0) (Holds : List Turn → Type 0) (Waits : ℕ → List Turn → Type 0) → BeginsWithOnePath start plan
    → CountsAsMuch start (harmed_so_far values start) count → DebtsAreMendedBy start plan most count First MendsFirst before
    → OneIsMendedAfter start plan most count First Holds Waits within
    → DebtsAreMendedBy start plan most count (OwesBoth First (OwesOneOf Holds)) (MendsAfter start First MendsFirst Waits within)
    (before + 100 + within)

-- and no more than one is owed at any open moment, and none where nothing was counted
abbrev pub OneDebtIsFew : Type 1
OneDebtIsFew = (start : Start) (plan : PathPlan) (most within : ℕ) (count : List Turn → ℕ) (First : ℕ → List Turn → Type 0)
    (Holds : List Turn → Type 0) (Waits : ℕ → List Turn → Type 0) → BeginsWithOnePath start plan → CountsAsMuch start (harmed_so_far values start) count
    → OneIsMendedAfter start plan most count First Holds Waits within → FewAreOwedBy start plan most count (OwesOneOf Holds)

-- nothing is owed: where there is no first kind
abbrev pub OwesNothing : ℕ → List Turn → Type 0
OwesNothing debts turns = Unit {0}

abbrev pub MendsNothing : ℕ → ℕ → List Turn → Type 0
MendsNothing debts x turns = ⊥

abbrev pub NothingIsMended : Type 0
NothingIsMended = (start : Start) (plan : PathPlan) (most : ℕ) (count : List Turn → ℕ) → IsMildStart start
    → CountsAsMuch start (harmed_so_far values start) count → DebtsAreMendedBy start plan most count OwesNothing MendsNothing 0
