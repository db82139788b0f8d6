-- As path 0 opens no more is owed than copies came early, and segments were harmed; nor more than A's end has records, or its file full segments.
use Rattle.std.proofs.Common.{◌≡◌, refl, sym, subst, ap, ⊎_elim, ℕ, ◌+◌, ◌≤◌, ◌&&◌, nat_le, min, arith, Bool, true, false, true≢false, if◌then◌else◌, List, [], ◌∷◌, ◌++◌, length}
use Rattle.std.proofs.lemmas.Bool.{and_parts, cases_lt, le-leb, leb-true}
use Rattle.sides.specs.declared.side.Side.{Side}
use Rattle.sides.specs.declared.side.Side.TheVariants.{A, B}
use Rattle.path_core.specs.State.{PathState}
use Rattle.path_core.specs.Values.{Carried, values}
use Rattle.world_laws.specs.Openings.{PathPlan, Start}
use Rattle.world_laws.specs.RoundDone.{reached}
use Rattle.world_laws.specs.Worlds.{Turn}
use Rattle.whole_paths.specs.Courses.{harmed_so_far}
use Rattle.whole_paths.specs.Directions.{OwesAlong}
use Rattle.whole_paths.specs.EarlyCopies.{LosesFew, came_early}
use Rattle.whole_paths.specs.EarlyRecords.{early}
use Rattle.whole_paths.specs.FilesFit.{FitsFirstWindow}
use Rattle.whole_paths.specs.Finish.{IsPathAt, segments}
use Rattle.whole_paths.specs.OnePathScripts.{BeginsWithOnePath, NeverFalls}
use Rattle.whole_paths.specs.OpenFirst.{HasJustOpened, OpensByClearing}
use Rattle.whole_paths.specs.QuietOpenings.{OpensOwingFew, fits_first, lost_early, segments_on}
use Rattle.whole_paths.proofs.EarlyCopies.{came_never_falls, opens_losing_few}
use Rattle.whole_paths.proofs.EarlyRecords.{early_never_falls, opens_owing_records}
use Rattle.whole_paths.proofs.FewRecords.{opens_owing_segments}
use Rattle.whole_paths.proofs.OpenClears.{paths_open_by_clearing}
use Rattle.whole_paths.proofs.OpenQuiet.{a_owes_records_first, b_owes_none_first}

pub lost_early_never_falls : NeverFalls lost_early
lost_early_never_falls start turns more =
    let came = came_never_falls start turns more in let records = early_never_falls values start turns more in
    elim (fits_first start) as (λ m. (if m then min (min (came_early start turns) (early values start turns)) (segments_on start.paths start.file_a) else min (came_early start turns) (early values start turns))
    ≤ (if m then min (min (came_early start (turns ++ more)) (early values start (turns ++ more))) (segments_on start.paths start.file_a) else min (came_early start (turns ++ more)) (early values start (turns ++ more))))
    [ true ↦ omega (arith, came, records) | false ↦ omega (arith, came, records) ]

-- none, where none came
pub none_lost_early : (start : Start) (turns : List Turn) → came_early start turns ≡ 0 → lost_early start turns ≡ 0
none_lost_early start turns none = elim (fits_first start) as (λ m. (if m then min (min (came_early start turns) (early values start turns)) (segments_on start.paths start.file_a) else min (came_early start turns) (early values start turns)) ≡ 0)
    [ true ↦ omega (arith, none) | false ↦ omega (arith, none) ]

-- no more than the file has segments, where it fits
pub lost_early_fits : (start : Start) (turns : List Turn) → FitsFirstWindow start A → lost_early start turns ≤ segments_on start.paths start.file_a
lost_early_fits start turns fits = by (fits_first start) fits_it
  where
    both : (a b : Bool) → a ≡ true → b ≡ true → a && b ≡ true
    both true b first second = second
    both false b first second = absurd (true≢false (sym first))

    fits_it : fits_first start ≡ true
    fits_it = both (nat_le (length start.file_a + 3) start.buffer) (nat_le (length start.file_a + 1) 65535) (le-leb (length start.file_a + 3) start.buffer fits.buffer) (le-leb (length start.file_a + 1) 65535 fits.syn)

    by : (m : Bool) → m ≡ true → (if m then min (min (came_early start turns) (early values start turns)) (segments_on start.paths start.file_a) else min (came_early start turns) (early values start turns)) ≤ segments_on start.paths start.file_a
    by true is = omega arith
    by false is = absurd (true≢false (sym is))

module _ (start : Start) (plan : PathPlan) (one : BeginsWithOnePath start plan) (before : List Turn) (turn : Turn) (p : PathState Carried) (here : IsPathAt 0 (reached values start before) p)
    (unclear : p.b.modes.clear ≡ false) (h : HasJustOpened start (before ++ turn ∷ [])) where
  abbrev later : List Turn
  later = before ++ turn ∷ []

  abbrev Owes : Side → Type 0
  Owes s = (debts : ℕ) × OwesAlong start s debts later × (debts ≤ lost_early start later + harmed_so_far values start later)

  -- by whatever bounds them least
  least : (debts : ℕ) × OwesAlong start A debts later × (debts ≤ min (came_early start later) (early values start later) + harmed_so_far values start later)
  least = ⊎_elim
      (λ fewer. (length few.lost, a_owes_records_first start plan before turn one p here unclear h.now few.lost few.well, (let low = few.few in omega (arith, low, fewer))))
      (λ all. (records.0, records.1, (let low = records.2 in omega (arith, low, all))))
      (cases_lt (came_early start later) (early values start later))
    where
      few : LosesFew start later h.now.path
      few = opens_losing_few start plan later one h

      records : (debts : ℕ) × OwesAlong start A debts later × (debts ≤ early values start later)
      records = opens_owing_records start plan later A one h

  owes : (s : Side) → Owes s
  owes A = by (fits_first start) refl
    where
      fits : fits_first start ≡ true → FitsFirstWindow start A
      fits is = let parts = and_parts (nat_le (length start.file_a + 3) start.buffer) (nat_le (length start.file_a + 1) 65535) is in
          record { buffer = leb-true (length start.file_a + 3) start.buffer parts.0; syn = leb-true (length start.file_a + 1) 65535 parts.1 }

      by : (m : Bool) → fits_first start ≡ m
          → (debts : ℕ) × OwesAlong start A debts later
          × (debts ≤ (if m then min (min (came_early start later) (early values start later)) (segments_on start.paths start.file_a) else min (came_early start later) (early values start later)) + harmed_so_far values start later)
      by false is = least
      by true is = ⊎_elim
          (λ fewer. (least.0, least.1, (let low = least.2 in omega (arith, low, fewer))))
          (λ all. (
          let most = opens_owing_segments start plan later one (fits is) h in
          let same : segments_on start.paths start.file_a ≡ segments plan.mss (length start.file_a) = ap (λ ps. segments_on ps start.file_a) one.one in
          (most.0, most.1, (let low = most.2 in omega (arith, low, same, all)))))
          (cases_lt (min (came_early start later) (early values start later)) (segments_on start.paths start.file_a))
  owes B = (0, b_owes_none_first start plan before turn one p here unclear h.now, omega arith)

pub opens_owing_few : OpensOwingFew
opens_owing_few start plan turns s one h = by (paths_open_by_clearing start plan turns one h)
  where
    by : OpensByClearing start turns → (debts : ℕ) × OwesAlong start s debts turns × (debts ≤ lost_early start turns + harmed_so_far values start turns)
    by c = subst (λ ts. HasJustOpened start ts → (debts : ℕ) × OwesAlong start s debts ts × (debts ≤ lost_early start ts + harmed_so_far values start ts)) (sym c.is)
        (λ now. owes start plan one c.before c.turn c.path c.here c.unclear now s) h
