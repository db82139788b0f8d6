-- Debts of two kinds are mended side by side: what is settled stays so without a harm, and any harm is an event of both.
use Rattle.std.proofs.Common.{◌≡◌, sym, subst, ◌⊎◌, inl, inr, ⊎_elim, ℕ, zero, suc, ◌+◌, ◌-◌, ◌≤◌, arith, le_refl, List}
use Rattle.std.proofs.lemmas.Bool.{cases_lt}
use Rattle.path_core.specs.Values.{values}
use Rattle.world_laws.specs.Openings.{PathPlan, Start}
use Rattle.world_laws.specs.Worlds.{Turn}
use Rattle.whole_paths.specs.Counts.{CountsAsMuch}
use Rattle.whole_paths.specs.Courses.{BeginsARound, TakesAStep, harmed_so_far, round_end}
use Rattle.whole_paths.specs.DebtKinds.{KindsAreFewTogether, KindsAreMendedTogether, MendsBoth, MendsKind, OwesBoth}
use Rattle.whole_paths.specs.DebtKinds.MendsBoth.{one, other}
use Rattle.whole_paths.specs.DebtKinds.MendsKind.{settled, waits}
use Rattle.whole_paths.specs.Debts.{Beginning, DebtsAreMendedBy, MendsOnBy, OwesOnBy, Stepping}
use Rattle.whole_paths.specs.Debts.MendsOnBy.{quiet, fewer, harmed}
use Rattle.whole_paths.specs.Mild.{IsMildStart}
use Rattle.whole_paths.specs.OpenCourses.{IsOpenAfter}
use Rattle.whole_paths.proofs.Counts.{counted_up}

module _ (start : Start) (plan : PathPlan) (most within : ℕ) (count : List Turn → ℕ) (mild : IsMildStart start)
    (harms : CountsAsMuch start (harmed_so_far values start) count) where
  pub step_up : (v u : List Turn) → TakesAStep values start (IsOpenAfter start) most v u → count v ≤ count u
  step_up v u step = counted_up start mild v u (Turn.Step step.actor) step.is step.before step.after count harms

  pub round_up : (v u : List Turn) → BeginsARound values start (IsOpenAfter start) most v u → count v ≤ count u
  round_up v u step = counted_up start mild v u Turn.Round step.is step.before step.after count harms

  -- ---- one kind

  module _ (Owes : ℕ → List Turn → Type 0) (Mends : ℕ → ℕ → List Turn → Type 0) where
    abbrev Kind : ℕ → ℕ → List Turn → Type 0
    Kind = MendsKind Owes Mends

    -- by a turn without a harm
    module _ (v u : List Turn) (same : count u ≡ count v) (on : (d : ℕ) → Owes d v → OwesOnBy start plan most count Owes d v u) (goes : (d x : ℕ) → Mends d x v → MendsOnBy start plan most count Owes Mends d x v u) where
      wait_on : (debts x by_then : ℕ) → by_then ≤ x → MendsOnBy start plan most count Owes Mends debts by_then v u → Kind debts x u
      wait_on debts x by_then low (quiet m) = waits by_then low m
      wait_on debts x by_then low (fewer now owes less) = settled now (omega (arith, less, same)) owes
      wait_on debts x by_then low (harmed owing more) = absurd (omega (arith, more, same))

      kind_on : (debts x : ℕ) → Kind debts x v → Kind debts x u
      kind_on debts x (settled now low owes) = let later = on now owes in settled later.now (let few = later.few in omega (arith, few, low, same)) later.owes
      kind_on debts x (waits by_then low m) = wait_on debts x by_then low (goes debts by_then m)

    kind_begins : (debts x : ℕ) (u : List Turn) → (Owes (suc debts) u → Owes debts u ⊎ Mends (suc debts) x u) → (n : ℕ) → n ≤ suc debts → Owes n u → Kind (suc debts) x u
    kind_begins debts x u begins n few owes = ⊎_elim
        (λ less. settled n less owes)
        (λ all. (let is : n ≡ suc debts = omega (arith, few, all) in
        ⊎_elim (λ less. settled debts (omega arith) less) (λ m. waits x (le_refl x) m) (begins (subst (λ d. Owes d u) is owes))))
        (cases_lt n (suc debts))

    -- how many are owed
    pub record Owed (debts : ℕ) (u : List Turn) : Type 0 where
      pub now : ℕ
      pub owes : Owes now u
      pub few : now ≤ debts

    owed : DebtsAreMendedBy start plan most count Owes Mends within → (debts x : ℕ) (u : List Turn) → Kind debts x u → Owed debts u
    owed h debts x u (settled now low owes) = record { now = now; owes = owes; few = omega (arith, low) }
    owed h debts x u (waits by_then low m) = record { now = debts; owes = h.owing debts by_then u m; few = le_refl debts }

  -- ---- both

  -- what is owed of both goes on
  module _ (One Other : ℕ → List Turn → Type 0) (v u : List Turn) (up : count v ≤ count u) (on_one : (d : ℕ) → One d v → OwesOnBy start plan most count One d v u)
      (on_other : (d : ℕ) → Other d v → OwesOnBy start plan most count Other d v u) where
    pub both_on : (debts : ℕ) → OwesBoth One Other debts v → OwesOnBy start plan most count (OwesBoth One Other) debts v u
    both_on debts h =
        let first = on_one h.one h.owes_one in let second = on_other h.other h.owes_other in record {
          now = debts + (count u - count v);
          owes = record {
            one = first.now;
            owes_one = first.owes;
            few_one = (let few = first.few in let low = h.few_one in omega (arith, few, low, up));
            other = second.now;
            owes_other = second.owes;
            few_other = (let few = second.few in let low = h.few_other in omega (arith, few, low, up));
          };
          few = omega (arith, up);
        }

  module _ (One : ℕ → List Turn → Type 0) (MendsOne : ℕ → ℕ → List Turn → Type 0) (Other : ℕ → List Turn → Type 0) (MendsOther : ℕ → ℕ → List Turn → Type 0)
      (a : DebtsAreMendedBy start plan most count One MendsOne within) (b : DebtsAreMendedBy start plan most count Other MendsOther within) where
    abbrev Both : ℕ → List Turn → Type 0
    Both = OwesBoth One Other

    abbrev Waits : ℕ → ℕ → List Turn → Type 0
    Waits = MendsBoth One MendsOne Other MendsOther

    -- a wait goes on, or of both kinds fewer are owed
    put_together : (debts x : ℕ) (u : List Turn) → MendsKind One MendsOne (suc debts) x u → MendsKind Other MendsOther (suc debts) x u → Both debts u ⊎ Waits (suc debts) x u
    put_together debts x u (waits by_then low m) k = inr (one by_then low m k)
    put_together debts x u (settled now low owes) (waits by_then early m) = inr (other by_then early m (settled now low owes))
    put_together debts x u (settled now low owes) (settled others few owing) =
        inl (record { one = now; owes_one = owes; few_one = omega (arith, low); other = others; owes_other = owing; few_other = omega (arith, few) })

    of_one : (debts x : ℕ) (u : List Turn) → Waits debts x u → MendsKind One MendsOne debts x u
    of_one debts x u (one by_then low m k) = waits by_then low m
    of_one debts x u (other by_then low m k) = k

    of_other : (debts x : ℕ) (u : List Turn) → Waits debts x u → MendsKind Other MendsOther debts x u
    of_other debts x u (one by_then low m k) = k
    of_other debts x u (other by_then low m k) = waits by_then low m

    owing : (debts x : ℕ) (u : List Turn) → Waits debts x u → Both debts u
    owing debts x u m =
        let first = owed One MendsOne a debts x u (of_one debts x u m) in let second = owed Other MendsOther b debts x u (of_other debts x u m) in
        record { one = first.now; owes_one = first.owes; few_one = first.few; other = second.now; owes_other = second.owes; few_other = second.few }

    module _ (v u : List Turn) (up : count v ≤ count u) (on_one : (d : ℕ) → One d v → OwesOnBy start plan most count One d v u) (on_other : (d : ℕ) → Other d v → OwesOnBy start plan most count Other d v u)
        (goes_one : (d x : ℕ) → MendsOne d x v → MendsOnBy start plan most count One MendsOne d x v u) (goes_other : (d x : ℕ) → MendsOther d x v → MendsOnBy start plan most count Other MendsOther d x v u) where
      -- there is one debt at least
      goes : (debts x : ℕ) → Waits debts x v → MendsOnBy start plan most count Both Waits debts x v u
      goes debts x m = ⊎_elim
          (λ more. harmed (both_on One Other v u up on_one on_other debts (owing debts x v m)) more)
          (λ few. (let same : count u ≡ count v = omega (arith, few, up) in
          still same debts refl_of (kind_on One MendsOne v u same on_one goes_one debts x (of_one debts x v m)) (kind_on Other MendsOther v u same on_other goes_other debts x (of_other debts x v m))))
          (cases_lt (count v) (count u))
        where
          refl_of : debts ≡ debts
          refl_of = omega arith

          still : count u ≡ count v → (d : ℕ) → debts ≡ d → MendsKind One MendsOne d x u → MendsKind Other MendsOther d x u → MendsOnBy start plan most count Both Waits debts x v u
          still same zero is first second = none first second
            where
              none : MendsKind One MendsOne 0 x u → MendsKind Other MendsOther 0 x u → MendsOnBy start plan most count Both Waits debts x v u
              none (settled now low owes) k = absurd (omega (arith, low))
              none (waits by_then low mends) k = quiet (subst (λ d. Waits d x u) (sym is) (one by_then low mends k))
          still same (suc d) is first second = ⊎_elim
              (λ less. fewer d less (omega (arith, is, same)))
              (λ waiting. quiet (subst (λ n. Waits n x u) (sym is) waiting))
              (put_together d x u first second)

    pub mended : DebtsAreMendedBy start plan most count Both Waits within
    mended = record {
      on = λ debts v u step h. stepping_on v u step debts h;
      next = λ debts v u step h. beginning_on v u step debts h;
      owing = owing;
      mends_on = λ debts x v u step m. goes v u (step_up v u step) (λ d h. a.on d v u step h) (λ d h. b.on d v u step h) (λ d y h. a.mends_on d y v u step h) (λ d y h. b.mends_on d y v u step h) debts x m;
      mends_next = λ debts x v u step m. goes v u (round_up v u step) (λ d h. a.next d v u step h) (λ d h. b.next d v u step h) (λ d y h. a.mends_next d y v u step h) (λ d y h. b.mends_next d y v u step h) debts x m;
      in_time = late;
      begins = λ debts v u step h. (let x = round_end values start v + within in
          put_together debts x u (kind_begins One MendsOne debts x u (λ all. a.begins debts v u step all) h.one h.few_one h.owes_one) (kind_begins Other MendsOther debts x u (λ all. b.begins debts v u step all) h.other h.few_other h.owes_other));
    }
      where
        stepping_on : (v u : List Turn) → Stepping start plan most Both v u → (debts : ℕ) → Both debts v → OwesOnBy start plan most count Both debts v u
        stepping_on v u step = both_on One Other v u (step_up v u step) (λ d h. a.on d v u step h) (λ d h. b.on d v u step h)

        beginning_on : (v u : List Turn) → Beginning start plan most Both v u → (debts : ℕ) → Both debts v → OwesOnBy start plan most count Both debts v u
        beginning_on v u step = both_on One Other v u (round_up v u step) (λ d h. a.next d v u step h) (λ d h. b.next d v u step h)

        late : (debts x : ℕ) (v u : List Turn) → Beginning start plan most Both v u → Waits debts x v → round_end values start v ≤ x
        late debts x v u step (one by_then low m k) = let early = a.in_time debts by_then v u step m in omega (arith, early, low)
        late debts x v u step (other by_then low m k) = let early = b.in_time debts by_then v u step m in omega (arith, early, low)

pub kinds_are_mended_together : KindsAreMendedTogether
kinds_are_mended_together start plan most within count One MendsOne Other MendsOther mild harms a b = mended start plan most within count mild harms One MendsOne Other MendsOther a b

pub kinds_are_few_together : KindsAreFewTogether
kinds_are_few_together start plan most count One Other one_few other_few turns now =
    let first = one_few turns now in let second = other_few turns now in record {
      debts = count turns;
      owes = record { one = first.debts; owes_one = first.owes; few_one = first.few; other = second.debts; owes_other = second.owes; few_other = second.few };
      few = le_refl (count turns);
    }
