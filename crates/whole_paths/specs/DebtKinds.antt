-- Debts of two kinds, side by side: of each there are so many at most, and waits for both go on at once.
use Rattle.std.specs.Prelude.{ℕ, ◌<◌, ◌≤◌, List}
use Rattle.path_core.specs.Values.{values}
use Rattle.world_laws.specs.Openings.{PathPlan, Start}
use Rattle.world_laws.specs.Worlds.{Turn}
use Rattle.whole_paths.specs.Counts.{CountsAsMuch}
use Rattle.whole_paths.specs.Courses.{harmed_so_far}
use Rattle.whole_paths.specs.Mild.{IsMildStart}
use Rattle.whole_paths.specs.Debts.{DebtsAreMendedBy, FewAreOwedBy}

-- so many of either kind are owed at most
pub record OwesBoth (One Other : ℕ → List Turn → Type 0) (debts : ℕ) (turns : List Turn) : Type 0 where
  pub one : ℕ
  pub owes_one : One one turns
  pub few_one : one ≤ debts
  pub other : ℕ
  pub owes_other : Other other turns
  pub few_other : other ≤ debts

-- of one kind fewer are owed, or the wait for that goes on, by this tick
pub data MendsKind (Owes : ℕ → List Turn → Type 0) (Mends : ℕ → ℕ → List Turn → Type 0) (debts x : ℕ) (turns : List Turn) : Type 0 where
  settled : (now : ℕ) → now < debts → Owes now turns → MendsKind Owes Mends debts x turns
  waits : (by : ℕ) → by ≤ x → Mends debts by turns → MendsKind Owes Mends debts x turns

module _ (One : ℕ → List Turn → Type 0) (MendsOne : ℕ → ℕ → List Turn → Type 0) (Other : ℕ → List Turn → Type 0)
    (MendsOther : ℕ → ℕ → List Turn → Type 0) where
  -- of one of them the wait goes on
  pub data MendsBoth (debts x : ℕ) (turns : List Turn) : Type 0 where
    one : (by : ℕ) → by ≤ x → MendsOne debts by turns → MendsKind Other MendsOther debts x turns → MendsBoth debts x turns
    other : (by : ℕ) → by ≤ x → MendsOther debts by turns → MendsKind One MendsOne debts x turns → MendsBoth debts x turns

-- Where debts of each of two kinds are mended, so are both side by side: a harm makes one of either kind at most.
abbrev pub KindsAreMendedTogether : Type 1
KindsAreMendedTogether = (start : Start) (plan : PathPlan) (most within : ℕ) (count : List Turn → ℕ)
    (One : ℕ → List Turn → Type 0) (MendsOne : ℕ → ℕ → List Turn → Type 0) (Other : ℕ → List Turn → Type 0)
    (MendsOther : ℕ → ℕ → List Turn → Type 0) → IsMildStart start → CountsAsMuch start (harmed_so_far values start) count
    → DebtsAreMendedBy start plan most count One MendsOne within → DebtsAreMendedBy start plan most count Other MendsOther within
    → DebtsAreMendedBy start plan most count (OwesBoth One Other) (MendsBoth One MendsOne Other MendsOther) within

abbrev pub KindsAreFewTogether : Type 1
KindsAreFewTogether = (start : Start) (plan : PathPlan) (most : ℕ) (count : List Turn → ℕ) (One Other : ℕ → List Turn → Type 0)
    → FewAreOwedBy start plan most count One → FewAreOwedBy start plan most count Other → FewAreOwedBy start plan most count (OwesBoth One Other)
