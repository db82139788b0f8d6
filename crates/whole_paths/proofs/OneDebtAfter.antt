-- A debt of one that is mended where nothing is owed of a first kind is mended together with those of that kind, which come first.
use Rattle.std.proofs.Common.{◌≡◌, refl, sym, subst, ap, ◌∙◌, ◌⊎◌, inl, inr, ⊎_elim, ℕ, zero, suc, ◌+◌, ◌<◌, ◌≤◌, arith, le_refl, List, [], ◌∷◌, ◌++◌}
use Rattle.std.proofs.lemmas.Bool.{cases_lt}
use Rattle.path_core.specs.Values.{values}
use Rattle.world_laws.specs.Openings.{PathPlan, Start}
use Rattle.world_laws.specs.Worlds.{Turn}
use Rattle.whole_paths.specs.Counts.{CountsAsMuch}
use Rattle.whole_paths.specs.Courses.{harmed_so_far, round_end}
use Rattle.whole_paths.specs.DebtKinds.{OwesBoth}
use Rattle.whole_paths.specs.Debts.{Beginning, DebtsAreMendedBy, FewAreOwedBy, MendsOnBy, OwesAtMostBy, OwesOnBy, Stepping}
use Rattle.whole_paths.specs.Debts.MendsOnBy.{quiet, fewer, harmed}
use Rattle.whole_paths.specs.Mending.{IsBegunTurn}
use Rattle.whole_paths.specs.OneDebt.{MendsAfter, NothingIsMended, OneDebtIsFew, OneDebtIsMendedAfter, OneIsMendedAfter, OwesOneOf}
use Rattle.whole_paths.specs.OneDebt.{MendsAfter as mends}
use Rattle.whole_paths.specs.OnePathScripts.{BeginsWithOnePath}
use Rattle.whole_paths.specs.OpenCourses.{IsOpenAfter}
use Rattle.whole_paths.specs.OpenFirst.{HasJustOpened}
use Rattle.whole_paths.proofs.Counts.{harms_up}
use Rattle.whole_paths.proofs.Courses.{round_next, round_step}
use Rattle.whole_paths.proofs.DebtKinds.{both_on, round_up, step_up}
use Rattle.whole_paths.proofs.OpenFirst.{known_always}
use Rattle.whole_paths.proofs.OpenTurns.{begun, begun_now}

-- ---- the one debt

module _ (start : Start) (plan : PathPlan) (most within : ℕ) (count : List Turn → ℕ) (First : ℕ → List Turn → Type 0) (Holds : List Turn → Type 0) (Waits : ℕ → List Turn → Type 0)
    (one : BeginsWithOnePath start plan) (harms : CountsAsMuch start (harmed_so_far values start) count) (after : OneIsMendedAfter start plan most count First Holds Waits within) where
  abbrev Alone : ℕ → List Turn → Type 0
  Alone = OwesOneOf Holds

  one_next : (turns : List Turn) (turn : Turn) (debts : ℕ) → IsBegunTurn start turns turn → Alone debts turns → OwesOnBy start plan most count Alone debts turns (turns ++ turn ∷ [])
  one_next turns turn debts h owes = ⊎_elim
      (λ holds. ⊎_elim
      (λ more. record { now = 1; owes = inr (omega arith); few = omega (arith, more) })
      (λ still. record { now = 0; owes = inl still; few = omega (arith, up) })
      (after.stays turns turn h holds))
      (λ some. record { now = debts; owes = inr some; few = omega (arith, up) })
      owes
    where
      up : count turns ≤ count (turns ++ turn ∷ [])
      up = let rises = harms.rises turns turn h in let more = harms_up start turns turn in omega (arith, rises, more)

  one_on : (v u : List Turn) (turn : Turn) → u ≡ v ++ turn ∷ [] → IsOpenAfter start v → IsOpenAfter start u → (d : ℕ) → Alone d v → OwesOnBy start plan most count Alone d v u
  one_on v u turn is was now d h =
      subst (λ t. OwesOnBy start plan most count Alone d v t) (sym is) (one_next v turn d (begun start v turn (record { mild = one.mild; before = was; after = subst (IsOpenAfter start) is now })) h)

  pub one_is_few : FewAreOwedBy start plan most count Alone
  one_is_few turns now = known_always start plan most one count Alone one_next opens turns (begun_now start turns one.mild now)
    where
      opens : (u : List Turn) → HasJustOpened start u → OwesAtMostBy start plan most count Alone u
      opens u h = ⊎_elim
          (λ holds. record { debts = 0; owes = inl holds; few = omega arith })
          (λ some. record { debts = 1; owes = inr (omega arith); few = some })
          (after.opens u h)

-- ---- after a first kind

module _ (start : Start) (plan : PathPlan) (most before within : ℕ) (count : List Turn → ℕ) (First : ℕ → List Turn → Type 0) (MendsFirst : ℕ → ℕ → List Turn → Type 0)
    (Holds : List Turn → Type 0) (Waits : ℕ → List Turn → Type 0) (one : BeginsWithOnePath start plan) (harms : CountsAsMuch start (harmed_so_far values start) count)
    (first : DebtsAreMendedBy start plan most count First MendsFirst before) (after : OneIsMendedAfter start plan most count First Holds Waits within) where
  abbrev One : ℕ → List Turn → Type 0
  One = OwesOneOf Holds

  abbrev Both : ℕ → List Turn → Type 0
  Both = OwesBoth First One

  abbrev Mends : ℕ → ℕ → List Turn → Type 0
  Mends = MendsAfter start First MendsFirst Waits within

  abbrev until : List Turn → ℕ
  until turns = round_end values start turns

  -- ---- by a turn

  -- none of the first kind is owed, and it holds
  none_owed : (u : List Turn) → First 0 u → Holds u → Both 0 u
  none_owed u none holds = record { one = 0; owes_one = none; few_one = omega arith; other = 0; owes_other = inl holds; few_other = omega arith }

  -- so many of the first kind, and one of the other at most
  some_owed : (debts now : ℕ) (u : List Turn) → 0 < debts → now ≤ debts → First now u → Both debts u
  some_owed debts now u some low owes = record { one = now; owes_one = owes; few_one = low; other = debts; owes_other = inr (omega (arith, some)); few_other = le_refl debts }

  -- none of it is, and the other is awaited
  none_yet : (debts : ℕ) (u : List Turn) → debts ≡ 1 → First 0 u → Both debts u
  none_yet debts u is none = some_owed debts 0 u (omega (arith, is)) (omega arith) none

  owing : (debts x : ℕ) (u : List Turn) → Mends debts x u → Both debts u
  owing debts x u (mends.first some by_then low early m) = some_owed debts debts u some (le_refl debts) (first.owing debts by_then u m)
  owing debts x u (mends.later is none low) = none_yet debts u is none
  owing debts x u (mends.waits is none by_then low w) = none_yet debts u is none

  module _ (v u : List Turn) (same : count u ≡ count v) where
    none_still : OwesOnBy start plan most count First 0 v u → First 0 u
    none_still h = subst (λ d. First d u) (let few = h.few in omega (arith, few, same)) h.owes

    -- of the first kind there are fewer
    first_fewer : (debts x now : ℕ) → 0 < debts → now < debts → First now u → (First 0 u → debts ≡ 1 → MendsOnBy start plan most count Both Mends debts x v u) → MendsOnBy start plan most count Both Mends debts x v u
    first_fewer debts x now some low owes then_one = by debts refl
      where
        by : (d : ℕ) → debts ≡ d → MendsOnBy start plan most count Both Mends debts x v u
        by zero is = absurd (omega (arith, is, some))
        by (suc zero) is = then_one (subst (λ n. First n u) (omega (arith, low, is)) owes) is
        by (suc (suc d)) is = fewer (suc d) (some_owed (suc d) now u (omega arith) (omega (arith, low, is)) owes) (omega (arith, same, is))

    holds_now : (debts x : ℕ) → debts ≡ 1 → First 0 u → Holds u → MendsOnBy start plan most count Both Mends debts x v u
    holds_now debts x is none holds = fewer 0 (none_owed u none holds) (omega (arith, is, same))

    goes : (debts x : ℕ) → debts ≡ 1 → First 0 u → (count v < count u) ⊎ (Holds u ⊎ ((by : ℕ) × (by ≤ x) × Waits by u)) → MendsOnBy start plan most count Both Mends debts x v u
    goes debts x is none = ⊎_elim
        (λ more. absurd (omega (arith, more, same)))
        (⊎_elim (λ holds. holds_now debts x is none holds) (λ w. quiet (mends.waits is none w.0 w.1 w.2)))

  -- ---- steps

  steps : (debts x : ℕ) (v u : List Turn) → Stepping start plan most Both v u → count u ≡ count v → Mends debts x v → MendsOnBy start plan most count Both Mends debts x v u
  steps debts x v u step same m = by m
    where
      until_same : until u ≡ until v
      until_same = ap until step.is ∙ round_step values start v step.actor

      still : First 0 v → First 0 u
      still none = none_still v u same (first.on 0 v u step none)

      by : Mends debts x v → MendsOnBy start plan most count Both Mends debts x v u
      by (mends.first some by_then low early w) = of_first (first.mends_on debts by_then v u step w)
        where
          of_first : MendsOnBy start plan most count First MendsFirst debts by_then v u → MendsOnBy start plan most count Both Mends debts x v u
          of_first (quiet more) = quiet (mends.first some by_then low (omega (arith, early, until_same)) more)
          of_first (fewer now owes less) = first_fewer v u same debts x now some (omega (arith, less, same)) owes (λ none is. quiet (mends.later is none (omega (arith, low, early, until_same))))
          of_first (harmed owes more) = absurd (omega (arith, more, same))
      by (mends.later is none low) = quiet (mends.later is (still none) (omega (arith, low, until_same)))
      by (mends.waits is none by_then low w) =
          goes v u same debts x is (still none) (⊎_elim (λ more. inl more) (⊎_elim (λ holds. inr (inl holds)) (λ waits. inr (inr (by_then, low, waits)))) (after.waits_on by_then v u step none w))

  -- ---- as a round begins

  module _ (v u : List Turn) (step : Beginning start plan most Both v u) where
    until_next : until u ≡ until v + 100
    until_next = ap until step.is ∙ round_next values start v step.over

    opens : (debts x : ℕ) → count u ≡ count v → Mends debts x v → MendsOnBy start plan most count Both Mends debts x v u
    opens debts x same m = by m
      where
        still : First 0 v → First 0 u
        still none = none_still v u same (first.next 0 v u step none)

        -- the wait for the other begins
        begin_now : until v + within ≤ x → First 0 u → debts ≡ 1 → MendsOnBy start plan most count Both Mends debts x v u
        begin_now low none is = goes v u same debts x is none (inr (⊎_elim (λ holds. inl holds) (λ waits. inr (until v + within, low, waits)) (after.begins v u step none)))

        by : Mends debts x v → MendsOnBy start plan most count Both Mends debts x v u
        by (mends.first some by_then low early w) = of_first (first.in_time debts by_then v u step w) (first.mends_next debts by_then v u step w)
          where
            of_first : until v ≤ by_then → MendsOnBy start plan most count First MendsFirst debts by_then v u → MendsOnBy start plan most count Both Mends debts x v u
            of_first in_time (quiet more) = quiet (mends.first some by_then low (omega (arith, in_time, until_next)) more)
            of_first in_time (fewer now owes less) = first_fewer v u same debts x now some (omega (arith, less, same)) owes (λ none is. begin_now (omega (arith, low, in_time)) none is)
            of_first in_time (harmed owes more) = absurd (omega (arith, more, same))
        by (mends.later is none low) = begin_now low (still none) is
        by (mends.waits is none by_then low w) =
            goes v u same debts x is (still none) (⊎_elim (λ more. inl more) (⊎_elim (λ holds. inr (inl holds)) (λ waits. inr (inr (by_then, low, waits)))) (after.waits_next by_then v u step none w))

    not_late : (debts x : ℕ) → Mends debts x v → until v ≤ x
    not_late debts x (mends.first some by_then low early w) = let in_time = first.in_time debts by_then v u step w in omega (arith, in_time, low)
    not_late debts x (mends.later is none low) = omega (arith, low)
    not_late debts x (mends.waits is none by_then low w) = let in_time = after.in_time by_then v u step none w in omega (arith, in_time, low)

    -- ---- how waits begin

    module _ (debts : ℕ) where
      abbrev Begins : Type 0
      Begins = Both debts u ⊎ Mends (suc debts) (until v + (before + 100 + within)) u

      of_debts : First debts u → Begins
      of_debts owes = by debts refl
        where
          by : (d : ℕ) → debts ≡ d → Begins
          by zero is = (let none = subst (λ d. First d u) is owes in ⊎_elim
              (λ holds. inl (subst (λ d. Both d u) (sym is) (none_owed u none holds)))
              (λ waits. inr (mends.waits (omega (arith, is)) none (until v + within) (omega arith) waits))
              (after.begins v u step none))
          by (suc d) is = inl (some_owed debts debts u (omega (arith, is)) (le_refl debts) owes)

      of_fewer : (now : ℕ) → now ≤ debts → First now u → Begins
      of_fewer now low owes = by debts refl
        where
          by : (d : ℕ) → debts ≡ d → Begins
          by zero is = of_debts (subst (λ d. First d u) (omega (arith, low, is)) owes)
          by (suc d) is = inl (some_owed debts now u (omega (arith, is)) low owes)

      begun_with : Both (suc debts) u → Begins
      begun_with h = ⊎_elim
          (λ less. of_fewer h.one (omega (arith, less)) h.owes_one)
          (λ all. (let low = h.few_one in ⊎_elim
          (λ owes. of_debts owes)
          (λ m. inr (mends.first (omega arith) (until v + before) (omega arith) (omega (arith, until_next)) m))
          (first.begins debts v u step (subst (λ d. First d u) (omega (arith, all, low)) h.owes_one))))
          (cases_lt h.one (suc debts))

  on : (v u : List Turn) → Stepping start plan most Both v u → (debts : ℕ) → Both debts v → OwesOnBy start plan most count Both debts v u
  on v u step debts h = both_on start plan most within count one.mild harms First One v u (step_up start plan most within count one.mild harms v u step) (λ d owes. first.on d v u step owes)
      (λ d owes. one_on start plan most within count First Holds Waits one harms after v u (Turn.Step step.actor) step.is step.before step.after d owes) debts h

  next : (v u : List Turn) → Beginning start plan most Both v u → (debts : ℕ) → Both debts v → OwesOnBy start plan most count Both debts v u
  next v u step debts h = both_on start plan most within count one.mild harms First One v u (round_up start plan most within count one.mild harms v u step) (λ d owes. first.next d v u step owes)
      (λ d owes. one_on start plan most within count First Holds Waits one harms after v u Turn.Round step.is step.before step.after d owes) debts h

  pub mended_after : DebtsAreMendedBy start plan most count Both Mends (before + 100 + within)
  mended_after = record {
    on = λ debts v u step h. on v u step debts h;
    next = λ debts v u step h. next v u step debts h;
    owing = owing;
    mends_on = λ debts x v u step m. ⊎_elim (λ more. harmed (on v u step debts (owing debts x v m)) more) (λ low. steps debts x v u step (let up = step_up start plan most within count one.mild harms v u step in omega (arith, up, low)) m) (cases_lt (count v) (count u));
    mends_next = λ debts x v u step m. ⊎_elim (λ more. harmed (next v u step debts (owing debts x v m)) more) (λ low. opens v u step debts x (let up = round_up start plan most within count one.mild harms v u step in omega (arith, up, low)) m) (cases_lt (count v) (count u));
    in_time = λ debts x v u step m. not_late v u step debts x m;
    begins = λ debts v u step h. begun_with v u step debts h;
  }

pub one_debt_is_mended_after : OneDebtIsMendedAfter
one_debt_is_mended_after start plan most before within count First MendsFirst Holds Waits one harms first after = mended_after start plan most before within count First MendsFirst Holds Waits one harms first after

pub one_debt_is_few : OneDebtIsFew
one_debt_is_few start plan most within count First Holds Waits one harms after = one_is_few start plan most within count First Holds Waits one harms after

pub nothing_is_mended : NothingIsMended
nothing_is_mended start plan most count mild harms = record {
  on = λ d v u step h. record { now = 0; owes = tt; few = (let up = step_up start plan most 0 count mild harms v u step in omega (arith, up)) };
  next = λ d v u step h. record { now = 0; owes = tt; few = (let up = round_up start plan most 0 count mild harms v u step in omega (arith, up)) };
  owing = λ d x turns m. tt;
  mends_on = λ d x v u step m. absurd m;
  mends_next = λ d x v u step m. absurd m;
  in_time = λ d x v u step m. absurd m;
  begins = λ d v u step h. inl tt;
}
