-- With debts along both directions, and others, whole paths deliver both files with `patience`.
use Rattle.std.proofs.Common.{subst, ℕ, ◌≤◌, arith, List}
use Rattle.sides.specs.declared.side.Side.{Side}
use Rattle.sides.specs.declared.side.Side.TheVariants.{A, B}
use Rattle.path_core.specs.Values.{values}
use Rattle.world_laws.specs.Openings.{PathPlan, Start}
use Rattle.world_laws.specs.Worlds.{Turn}
use Rattle.whole_paths.specs.Courses.{harmed_so_far}
use Rattle.whole_paths.specs.DebtKinds.{MendsBoth, OwesBoth}
use Rattle.whole_paths.specs.Debts.{AreMended, AwaitsEither, DebtsAreMendedBy, FewAreOwedBy, MendsSoon, long_wait, one_timeout}
use Rattle.whole_paths.specs.DirectionWaits.{MendsAlong}
use Rattle.whole_paths.specs.Directions.{OwesAlong}
use Rattle.whole_paths.specs.OnePathScripts.{BeginsWithOnePath}
use Rattle.whole_paths.specs.OpenCourses.{IsOpenAfter}
use Rattle.whole_paths.specs.SharpCourses.{SharpExchanges}
use Rattle.whole_paths.specs.SharpPaths.{OwesAll, RestIsMended, SharpPathsEndSo}
use Rattle.whole_paths.specs.ShortWaits.{WaitsForAUnit}
use Rattle.whole_paths.specs.UnitRounds.{AreToldSoon, IsAllWell}
use Rattle.whole_paths.proofs.Counts.{debts_are_mended_by_more}
use Rattle.whole_paths.proofs.DebtKinds.{kinds_are_few_together, kinds_are_mended_together}
use Rattle.whole_paths.proofs.Directions.{what_owes_none_is_well}
use Rattle.whole_paths.proofs.DirectionsMended.{directions_are_mended}
use Rattle.whole_paths.proofs.OpenFirst.{few_along}
use Rattle.whole_paths.proofs.SharpCourses.{sharp_exchanges_end}
use Rattle.whole_paths.proofs.ShortWaits.{exchanges_go_on_so}
use Rattle.whole_paths.proofs.ToldHeard.{what_is_told_is_heard_so}

module _ (start : Start) (plan : PathPlan) (most : ℕ) (paid count : List Turn → ℕ) (Other : ℕ → List Turn → Type 0) (MendsOther : ℕ → ℕ → List Turn → Type 0) where
  abbrev Mends : Side → ℕ → ℕ → List Turn → Type 0
  Mends s = MendsSoon (MendsAlong start s)

  abbrev pub MendsAll : ℕ → ℕ → List Turn → Type 0
  MendsAll = MendsBoth (OwesAlong start A) (Mends A) (OwesBoth (OwesAlong start B) Other) (MendsBoth (OwesAlong start B) (Mends B) Other MendsOther)

  module _ (one : BeginsWithOnePath start plan) (rest : RestIsMended start plan most paid count Other MendsOther) where
    along : (s : Side) → DebtsAreMendedBy start plan most count (OwesAlong start s) (Mends s) long_wait
    along s = debts_are_mended_by_more start plan most one_timeout long_wait (harmed_so_far values start) count (OwesAlong start s) (MendsAlong start s) one.mild rest.counts.harms (omega arith)
        (directions_are_mended start plan most s one)

    few : (s : Side) → FewAreOwedBy start plan most count (OwesAlong start s)
    few s = few_along start plan most s one count rest.counts.harms (rest.opens s)

    all_mended : DebtsAreMendedBy start plan most count (OwesAll start Other) MendsAll long_wait
    all_mended = kinds_are_mended_together start plan most long_wait count (OwesAlong start A) (Mends A) (OwesBoth (OwesAlong start B) Other) (MendsBoth (OwesAlong start B) (Mends B) Other MendsOther)
        one.mild rest.counts.harms (along A)
        (kinds_are_mended_together start plan most long_wait count (OwesAlong start B) (Mends B) Other MendsOther one.mild rest.counts.harms (along B) rest.others)

    all_few : FewAreOwedBy start plan most count (OwesAll start Other)
    all_few = kinds_are_few_together start plan most count (OwesAlong start A) (OwesBoth (OwesAlong start B) Other) (few A)
        (kinds_are_few_together start plan most count (OwesAlong start B) Other (few B) rest.few)

    none_of : (Owes : ℕ → List Turn → Type 0) (n m : ℕ) (turns : List Turn) → n ≤ m → m ≤ 0 → Owes n turns → Owes 0 turns
    none_of Owes n m turns low none owes = subst (λ k. Owes k turns) (omega (arith, low, none)) owes

    module _ (turns : List Turn) (h : OwesAll start Other 0 turns) where
      of_side : (s : Side) → OwesAlong start s 0 turns
      of_side A = none_of (OwesAlong start A) h.one 0 turns h.few_one (omega arith) h.owes_one
      of_side B = none_of (OwesAlong start B) h.owes_other.one h.other turns h.owes_other.few_one h.few_other h.owes_other.owes_one

      all_well : IsAllWell start turns
      all_well s = what_owes_none_is_well start plan turns s one (of_side s)

      told_soon : (s : Side) → AreToldSoon start s turns
      told_soon s = let is = all_well s in record { path = is.path; here = is.here; told = is.told }

    pub exchanges : SharpExchanges start plan paid most (AreMended start plan most count (OwesAll start Other))
        (AwaitsEither start plan most count (OwesAll start Other) MendsAll (WaitsForAUnit start plan count (OwesAll start Other)))
    exchanges = exchanges_go_on_so start plan most paid count (OwesAll start Other) MendsAll one rest.counts all_mended all_well
        (what_is_told_is_heard_so start plan (OwesAll start Other 0) one told_soon rest.hears)

    -- none is mended first
    pub none_mended : (turns : List Turn) → IsOpenAfter start turns → AreMended start plan most count (OwesAll start Other) 0 turns
    none_mended turns now = let all = all_few turns now in record { debts = all.debts; owes = all.owes; few = (let low = all.few in omega (arith, low)) }

pub sharp_paths_end_so : SharpPathsEndSo
sharp_paths_end_so Also paid count Other MendsOther pays rests = sharp_exchanges_end Also paid (λ start plan most. AreMended start plan most (count start) (OwesAll start (Other start)))
    (λ start plan most. AwaitsEither start plan most (count start) (OwesAll start (Other start)) (MendsAll start plan most (paid start) (count start) (Other start) (MendsOther start)) (WaitsForAUnit start plan (count start) (OwesAll start (Other start))))
    pays
    (λ start plan most one also. exchanges start plan most (paid start) (count start) (Other start) (MendsOther start) one (rests start plan most one also))
    (λ start plan most one also turns now. none_mended start plan most (paid start) (count start) (Other start) (MendsOther start) one (rests start plan most one also) turns now)
