-- Where windows are mended nothing else is left: with records, acknowledgements and DATA_FINs whole paths end in time.
use Rattle.std.proofs.Common.{⊎_elim, subst, ℕ, zero, suc, ◌+◌, ◌≤◌, arith, true, List, [], ◌∷◌, ◌++◌}
use Rattle.sides.specs.declared.side.Side.{Side}
use Rattle.sides.specs.declared.side.Side.TheVariants.{A, B}
use Rattle.path_core.specs.Values.{values}
use Rattle.world_laws.specs.Openings.{PathPlan, Start, opened_world}
use Rattle.world_laws.specs.Worlds.{Turn}
use Rattle.whole_paths.specs.Counts.{Counts, CountsAsMuch, with_events}
use Rattle.whole_paths.specs.Courses.{harmed_so_far}
use Rattle.whole_paths.specs.Debts.{DebtsAreMendedBy, FewAreOwedBy, MendsSoon, OwesAtMostBy, long_wait, one_timeout}
use Rattle.whole_paths.specs.DirectionWaits.{MendsAlong}
use Rattle.whole_paths.specs.Directions.{OwesAlong}
use Rattle.whole_paths.specs.FinDebts.{FinStandsAfter, all_is_acked}
use Rattle.whole_paths.specs.FinsMended.{CountsFins, MendsFin, OwesFin}
use Rattle.whole_paths.specs.Mending.{IsBegunTurn}
use Rattle.whole_paths.specs.News.{one_if}
use Rattle.whole_paths.specs.OneDebt.{MendsAfter, OneIsMendedAfter, OwesOneOf}
use Rattle.whole_paths.specs.OnePathScripts.{BeginsWithOnePath}
use Rattle.whole_paths.specs.OpenFirst.{HasJustOpened}
use Rattle.whole_paths.specs.PatientPaths.{harms_and_early}
use Rattle.whole_paths.specs.SharpCourses.{PaysForHarms}
use Rattle.whole_paths.specs.SharpPaths.{OwesAll, RestIsMended}
use Rattle.whole_paths.specs.UnitRounds.{IsAllWell, WellRounds}
use Rattle.whole_paths.specs.WindowKinds.{MendsDirections, MendsFins, MendsOthers, MendsWindow, MendsWindows, OwesDirections, OwesFins, OwesOthers, OwesWindow, OwesWindows, PathsEndByWindows, WindowsAreMended, WindowsStand, with_all}
use Rattle.whole_paths.proofs.Counts.{counts_itself, debts_are_mended_by_more, event_up, one_at_most}
use Rattle.whole_paths.proofs.Courses.{harmed_append}
use Rattle.whole_paths.proofs.DebtKinds.{kinds_are_few_together, kinds_are_mended_together}
use Rattle.whole_paths.proofs.Directions.{what_owes_none_is_well}
use Rattle.whole_paths.proofs.DirectionsMended.{directions_are_mended}
use Rattle.whole_paths.proofs.FinsHeard.{ends_are_heard}
use Rattle.whole_paths.proofs.FinsMended.{few_fins_are_owed, fins_are_mended, what_is_acked_lasts, who_owes_no_fin_stands}
use Rattle.whole_paths.proofs.OneDebtAfter.{one_debt_is_few, one_debt_is_mended_after}
use Rattle.whole_paths.proofs.OpenFirst.{few_along}
use Rattle.whole_paths.proofs.QuietOpenings.{lost_early_never_falls, opens_owing_few}
use Rattle.whole_paths.proofs.SharpPaths.{sharp_paths_end_so}

pays : PaysForHarms (harms_and_early values)
pays = record {
  up = λ start turns more. (let first = lost_early_never_falls start turns more in let harms = harmed_append values 0 turns more (opened_world start) in omega (arith, first, harms));
  covers = λ start turns. omega arith;
}

-- of rounds after which one thing holds, so does what follows from it
rounds_so : (start : Start) (Well More : List Turn → Type 0) → ((turns : List Turn) → Well turns → More turns) → (n : ℕ) (v u : List Turn) → WellRounds start Well n v u → WellRounds start More n v u
rounds_so start Well More so zero v u r = (r.0, so v r.1)
rounds_so start Well More so (suc n) v u r = (r.0, (rounds_so start Well More so n v r.0 r.1.0, (r.1.1.0, so u r.1.1.1)))

module _ (Also : Start → PathPlan → Type 0) (Holds : Start → Side → List Turn → Type 0) (Waits : Start → Side → ℕ → List Turn → Type 0) (mends : WindowsAreMended Also Holds Waits)
    (start : Start) (plan : PathPlan) (most : ℕ) (one : BeginsWithOnePath start plan) (also : Also start plan) where
  abbrev count : List Turn → ℕ
  count = with_all start

  acked_up : (s : Side) (turns : List Turn) (turn : Turn) → IsBegunTurn start turns turn → one_if (all_is_acked start s turns) ≤ one_if (all_is_acked start s (turns ++ turn ∷ []))
  acked_up s turns turn h = event_up start (all_is_acked start s) (what_is_acked_lasts start plan s one) turns turn h

  fins : (s : Side) → CountsFins start s count
  fins A = record {
    covers = λ turns. omega arith;
    rises = λ turns turn h. (let b = acked_up B turns turn h in let lost = lost_early_never_falls start turns (turn ∷ []) in omega (arith, b, lost));
  }
  fins B = record {
    covers = λ turns. omega arith;
    rises = λ turns turn h. (let a = acked_up A turns turn h in let lost = lost_early_never_falls start turns (turn ∷ []) in omega (arith, a, lost));
  }

  opened : CountsAsMuch start (with_events start ((λ turns. true) ∷ [])) count
  opened = record {
    covers = λ turns. omega arith;
    rises = λ turns turn h. (let a = acked_up A turns turn h in let b = acked_up B turns turn h in let lost = lost_early_never_falls start turns (turn ∷ []) in omega (arith, a, b, lost));
  }

  counts : Counts start (harms_and_early values start) count
  counts = record {
    harms = record {
      covers = λ turns. omega arith;
      rises = λ turns turn h. (let a = acked_up A turns turn h in let b = acked_up B turns turn h in let lost = lost_early_never_falls start turns (turn ∷ []) in omega (arith, a, b, lost));
    };
    few = λ turns. (let a = one_at_most (all_is_acked start A turns) in let b = one_at_most (all_is_acked start B turns) in omega (arith, a, b));
  }

  -- ---- directions

  along : (s : Side) → DebtsAreMendedBy start plan most count (OwesAlong start s) (MendsSoon (MendsAlong start s)) one_timeout
  along s = debts_are_mended_by_more start plan most one_timeout one_timeout (harmed_so_far values start) count (OwesAlong start s) (MendsAlong start s) one.mild counts.harms (omega arith)
      (directions_are_mended start plan most s one)

  directions : DebtsAreMendedBy start plan most count (OwesDirections start) (MendsDirections start) one_timeout
  directions = kinds_are_mended_together start plan most one_timeout count (OwesAlong start A) (MendsSoon (MendsAlong start A)) (OwesAlong start B) (MendsSoon (MendsAlong start B)) one.mild counts.harms (along A) (along B)

  few_first : (s : Side) (turns : List Turn) → HasJustOpened start turns → OwesAtMostBy start plan most count (OwesAlong start s) turns
  few_first s turns h = let owes = opens_owing_few start plan turns s one h in record { debts = owes.0; owes = owes.1; few = (let low = owes.2 in omega (arith, low)) }

  few_directions : FewAreOwedBy start plan most count (OwesDirections start)
  few_directions = kinds_are_few_together start plan most count (OwesAlong start A) (OwesAlong start B) (few_along start plan most A one count counts.harms (few_first A)) (few_along start plan most B one count counts.harms (few_first B))

  -- ---- windows

  after_them : (s : Side) → OneIsMendedAfter start plan most count (OwesDirections start) (Holds start s) (Waits start s) 90000
  after_them s = mends.mended start plan most s count one also opened

  window : (s : Side) → DebtsAreMendedBy start plan most count (OwesWindow Also Holds Waits start s) (MendsWindow Also Holds Waits start s) long_wait
  window s = debts_are_mended_by_more start plan most (one_timeout + 100 + 90000) long_wait count count (OwesWindow Also Holds Waits start s)
      (MendsAfter start (OwesDirections start) (MendsDirections start) (Waits start s) 90000) one.mild (counts_itself start count) (omega arith)
      (one_debt_is_mended_after start plan most one_timeout 90000 count (OwesDirections start) (MendsDirections start) (Holds start s) (Waits start s) one counts.harms directions (after_them s))

  few_window : (s : Side) → FewAreOwedBy start plan most count (OwesWindow Also Holds Waits start s)
  few_window s = kinds_are_few_together start plan most count (OwesDirections start) (OwesOneOf (Holds start s)) few_directions
      (one_debt_is_few start plan most 90000 count (OwesDirections start) (Holds start s) (Waits start s) one counts.harms (after_them s))

  -- ---- DATA_FINs

  fin : (s : Side) → DebtsAreMendedBy start plan most count (OwesFin start s) (MendsSoon (MendsFin start s)) long_wait
  fin s = debts_are_mended_by_more start plan most 60100 long_wait count count (OwesFin start s) (MendsFin start s) one.mild (counts_itself start count) (omega arith)
      (fins_are_mended start plan most s count one (fins s))

  few_fin : (s : Side) → FewAreOwedBy start plan most count (OwesFin start s)
  few_fin s = few_fins_are_owed start plan most s count one (fins s)

  -- ---- without debts

  abbrev None : List Turn → Type 0
  None = OwesAll start (OwesOthers Also Holds Waits start) 0

  none_of : (Owes : ℕ → List Turn → Type 0) (n m : ℕ) (turns : List Turn) → n ≤ m → m ≤ 0 → Owes n turns → Owes 0 turns
  none_of Owes n m turns low none owes = subst (λ d. Owes d turns) (omega (arith, low, none)) owes

  module _ (turns : List Turn) (h : None turns) where
    others : OwesOthers Also Holds Waits start 0 turns
    others = none_of (OwesOthers Also Holds Waits start) h.owes_other.other h.other turns h.owes_other.few_other h.few_other h.owes_other.owes_other

    no_fins : OwesFins Also Holds Waits start 0 turns
    no_fins = none_of (OwesFins Also Holds Waits start) others.one 0 turns others.few_one (omega arith) others.owes_one

    no_windows : OwesWindows Also Holds Waits start 0 turns
    no_windows = none_of (OwesWindows Also Holds Waits start) others.other 0 turns others.few_other (omega arith) others.owes_other

    stand : (s : Side) → FinStandsAfter start s turns
    stand A = who_owes_no_fin_stands start A turns (none_of (OwesFin start A) no_fins.one 0 turns no_fins.few_one (omega arith) no_fins.owes_one)
    stand B = who_owes_no_fin_stands start B turns (none_of (OwesFin start B) no_fins.other 0 turns no_fins.few_other (omega arith) no_fins.owes_other)

    of_window : (s : Side) (d : ℕ) → d ≤ 0 → OwesWindow Also Holds Waits start s d turns → Holds start s turns
    of_window s d none w = ⊎_elim (λ holds. holds) (λ some. absurd (let low = w.few_other in omega (arith, some, low, none))) w.owes_other

    holds : (s : Side) → Holds start s turns
    holds A = of_window A no_windows.one no_windows.few_one no_windows.owes_one
    holds B = of_window B no_windows.other no_windows.few_other no_windows.owes_other

    well : IsAllWell start turns
    well A = what_owes_none_is_well start plan turns A one (none_of (OwesAlong start A) h.one 0 turns h.few_one (omega arith) h.owes_one)
    well B = what_owes_none_is_well start plan turns B one (none_of (OwesAlong start B) h.owes_other.one h.other turns h.owes_other.few_one h.few_other h.owes_other.owes_one)

    windows_stand : WindowsStand Also Holds Waits start turns
    windows_stand = record { holds = holds; well = well }

  rest : RestIsMended start plan most (harms_and_early values start) count (OwesOthers Also Holds Waits start) (MendsOthers Also Holds Waits start)
  rest = record {
    counts = counts;
    opens = few_first;
    others = kinds_are_mended_together start plan most long_wait count (OwesFins Also Holds Waits start) (MendsFins Also Holds Waits start) (OwesWindows Also Holds Waits start) (MendsWindows Also Holds Waits start)
        one.mild counts.harms
        (kinds_are_mended_together start plan most long_wait count (OwesFin start A) (MendsSoon (MendsFin start A)) (OwesFin start B) (MendsSoon (MendsFin start B)) one.mild counts.harms (fin A) (fin B))
        (kinds_are_mended_together start plan most long_wait count (OwesWindow Also Holds Waits start A) (MendsWindow Also Holds Waits start A) (OwesWindow Also Holds Waits start B) (MendsWindow Also Holds Waits start B)
        one.mild counts.harms (window A) (window B));
    few = kinds_are_few_together start plan most count (OwesFins Also Holds Waits start) (OwesWindows Also Holds Waits start)
        (kinds_are_few_together start plan most count (OwesFin start A) (OwesFin start B) (few_fin A) (few_fin B))
        (kinds_are_few_together start plan most count (OwesWindow Also Holds Waits start A) (OwesWindow Also Holds Waits start B) (few_window A) (few_window B));
    hears = record {
      windows = λ s v u rounds. mends.heard start plan s v u one also (rounds_so start None (WindowsStand Also Holds Waits start) windows_stand 6 v u rounds);
      fins = λ s v u rounds sent. ends_are_heard start plan None one stand s v u rounds sent;
    };
  }

pub paths_end_by_windows : (Also : Start → PathPlan → Type 0) (Holds : Start → Side → List Turn → Type 0) (Waits : Start → Side → ℕ → List Turn → Type 0) → PathsEndByWindows Also Holds Waits
paths_end_by_windows Also Holds Waits mends = sharp_paths_end_so Also (harms_and_early values) with_all (OwesOthers Also Holds Waits) (MendsOthers Also Holds Waits) pays
    (λ start plan most one also. rest Also Holds Waits mends start plan most one also)
