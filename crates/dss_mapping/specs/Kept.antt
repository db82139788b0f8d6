-- What is kept of the places: runs in order, of which no two have a position in common.
use Rattle.std.specs.Prelude.{ℕ, ◌≡◌, ◌+◌, ◌-◌, ◌≤◌, ◌<◌, min, max, nat_le, not, false, ◌&&◌, ◌==◌, if◌then◌else◌, Bool, Option, Some, None, IfSome, List, [], ◌∷◌, find}
use Rattle.std.specs.Option.{option_or, option_map}
use Rattle.std.specs.FinMap as map
use Rattle.std.proofs.Common.{suc}
use Rattle.dss_mapping.specs.declared.kept.KeptMapping.{KeptMapping}
use Rattle.dss_mapping.specs.declared.run.Run.{Run}
use Rattle.dss_mapping.specs.declared.stretch.Stretch.{Stretch}
use Rattle.dss_mapping.specs.Runs.{covers, place_in, IsSound}
use Rattle.dss_mapping.specs.Places.{Places, with_run}
use Rattle.dss_mapping.specs.Mappings.{run_of, tail_at}

-- each run has a position, its places are numbers of 64 bits, and it begins at or after the end of the one before it, the
-- first one at or after `from`
abbrev pub AreOrdered : ℕ → List Run → Type 0
AreOrdered from [] = Unit {0}
AreOrdered from (run ∷ runs) = (from ≤ run.pos) × (run.pos < run.to) × IsSound run × AreOrdered run.to runs

-- the places of their positions
abbrev pub places_of : List Run → Places
places_of [] = map.empty
places_of (run ∷ runs) = with_run run (places_of runs)

-- the place of a position by these runs
abbrev pub place_among : ℕ → List Run → Option ℕ
place_among p [] = None
place_among p (run ∷ runs) = if covers p run then Some (place_in p run) else place_among p runs

-- the place of a position by these runs, or else by the infinite one
abbrev pub place_by : List Run → Option Run → ℕ → Option ℕ
place_by runs tail p = option_or (place_among p runs) (tail_at tail p)

-- no position of the told run has another place
pub record AgreeAmong (told : Run) (runs : List Run) : Type 0 where
  pub each : (p : ℕ) → told.pos ≤ p → p < told.to → IfSome (place_among p runs) (λ place. place ≡ place_in p told)

-- two runs touch or have a position in common, and have one distance between place and position
abbrev pub joins : Run → Run → Bool
joins told run =
    let p = max run.pos told.pos in
    nat_le p run.to && nat_le p told.to && (place_in p run == place_in p told)

-- no run could be one with the next, so that there are as few as can be
abbrev pub AreApart : List Run → Type 0
AreApart [] = Unit {0}
AreApart (run ∷ []) = Unit {0}
AreApart (run ∷ next ∷ runs) = (joins run next ≡ false) × AreApart (next ∷ runs)

-- the runs are in order and as few as can be; they and the infinite one have positions and places of 64 bits
pub record IsKept (runs : List Run) (tail : Option Run) : Type 0 where
  pub ordered : AreOrdered 0 runs
  pub fewest : AreApart runs
  pub sound : IfSome tail IsSound

-- none of these mappings has a position that has no place among the runs
abbrev pub ArePlaced : List Run → List KeptMapping → Type 0
ArePlaced runs live = (p : ℕ) → place_among p runs ≡ None → find (λ kept. covers p (run_of kept)) live ≡ None

-- the positions of two such runs
abbrev pub joined : Run → Run → Run
joined told run = record { pos = min told.pos run.pos; place = min told.place run.place; to = max told.to run.to }

-- the run ends before the told run begins, or there and with another distance
abbrev pub lies_before : Run → Run → Bool
lies_before told run = nat_le run.to told.pos && not (joins told run)

-- the told run joined with the first ones of these, as long as it joins the next
abbrev pub absorbed : Run → List Run → Run
absorbed told [] = told
absorbed told (run ∷ runs) = if joins told run then absorbed (joined told run) runs else told

-- how many those are
abbrev pub count_joined : Run → List Run → ℕ
count_joined told [] = 0
count_joined told (run ∷ runs) = if joins told run then suc (count_joined (joined told run) runs) else 0

-- all positions from `at` on below `to` have places side by side, or none has one
pub record IsStretch (place : ℕ → Option ℕ) (at : ℕ) (stretch : Stretch) : Type 0 where
  pub onward : at < stretch.to
  pub each : (p : ℕ) → at ≤ p → p < stretch.to → place p ≡ option_map (λ first. first + (p - at)) stretch.place
