-- Of each place the first image, as runs of places tell it.
use Rattle.std.specs.Prelude.{ℕ, ◌≡◌, ◌≢◌, ◌+◌, ◌-◌, ◌^◌, ◌<◌, ◌≤◌, min, nat_le, nat_lt, ◌&&◌, Bool, if◌then◌else◌, Option, Some, None, List, [], ◌∷◌, zero, suc}
use Rattle.std.specs.Option.{option_or}
use Rattle.first_runs.specs.declared.run.Run.{Run}

-- what is told of a place: its image, and by whom
pub record Told : Type 0 where
  pub image : ℕ
  pub teller : ℕ

-- the run has the place
abbrev pub has : Run → ℕ → Bool
has run place = nat_le run.from place && nat_lt place run.to

-- what a run tells of a place that it has
abbrev pub image_in : Run → ℕ → Told
image_in run place = record { image = run.image + (place - run.from); teller = run.teller }

-- what a run tells of a place, if it has it
abbrev pub told_by : Run → ℕ → Option Told
told_by run place = if has run place then Some (image_in run place) else None

-- what runs tell of a place
abbrev pub told_at : List Run → ℕ → Option Told
told_at [] place = None
told_at (run ∷ runs) place = option_or (told_by run place) (told_at runs place)

-- nothing is told of a place
abbrev pub missing_at : Option Told → ℕ
missing_at None = 1
missing_at (Some told) = 0

-- of how many places from one on, so many in all, nothing is told
abbrev pub missing : List Run → ℕ → ℕ → ℕ
missing runs from zero = 0
missing runs from (suc count) = missing_at (told_at runs from) + missing runs (from + 1) count

-- the images of its places are numbers of 64 bits
abbrev pub Fits : Run → Type 0
Fits run = run.image + (run.to - run.from) < 2 ^ 64

-- the places of a run from one of them on, below another
abbrev pub cut_to : ℕ → ℕ → Run → Run
cut_to from to run = record { from = from; to = min run.to to; image = run.image + (from - run.from); teller = run.teller }

-- each run has a place, its images are numbers of 64 bits, and it begins at or after the end of the one before it, the first one
-- at or after `from`
abbrev pub AreInOrder : ℕ → List Run → Type 0
AreInOrder from [] = Unit {0}
AreInOrder from (run ∷ runs) = (from ≤ run.from) × (run.from < run.to) × Fits run × AreInOrder run.to runs

-- the first run that ends behind a place: from there to its end nothing but it tells anything
pub record IsFirstBehind (runs : List Run) (place : ℕ) (run : Run) : Type 0 where
  pub behind : place < run.to
  pub some : run.from < run.to
  pub fits : Fits run
  pub alone : (p : ℕ) → place ≤ p → p < run.to → told_at runs p ≡ told_by run p

-- the first places of a range of which nothing is told, as many as follow one another
pub record IsGap (runs : List Run) (from to begin end : ℕ) : Type 0 where
  pub begun : from ≤ begin
  pub some : begin < end
  pub within : end ≤ to
  pub before : (p : ℕ) → from ≤ p → p < begin → told_at runs p ≢ None
  pub free : (p : ℕ) → begin ≤ p → p < end → told_at runs p ≡ None
  pub most : end < to → told_at runs end ≢ None

-- of the places of a run those below one of them have their images, where they had none
pub record IsFilledBelow (run : Run) (old new : List Run) : Type 0 where
  pub end : ℕ
  pub told : (p : ℕ) → told_at new p ≡ option_or (told_at old p) (told_by (cut_to run.from end run) p)
