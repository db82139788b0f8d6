-- Runs: places side by side that have the same mark.
use Rattle.std.specs.Prelude.{ℕ, ◌≡◌, ◌≢◌, ◌-◌, ◌^◌, ◌<◌, suc, max, min, nat_le, nat_lt, if◌then◌else◌, List, [], ◌∷◌, ◌++◌, replicate}
use Rattle.range_marks.specs.declared.run.Run.{Run}
use Rattle.range_marks.specs.Marks.{Marks, marks_len}

module _ {M : Type 0} where
  -- the marks of the places of these runs, one after another
  abbrev pub marks_of : List (Run M) → List M
  marks_of [] = []
  marks_of (run ∷ runs) = replicate (run.to - run.from) run.mark ++ marks_of runs

  -- the runs lie side by side, none of them empty, from one place to another
  abbrev pub LieSideBySide : ℕ → ℕ → List (Run M) → Type 0
  LieSideBySide from to [] = from ≡ to
  LieSideBySide from to (run ∷ runs) = (run.from ≡ from) × (from < run.to) × LieSideBySide run.to to runs

  -- the first run, where there is one, has another mark
  abbrev pub BeginsOtherwise : M → List (Run M) → Type 0
  BeginsOtherwise mark [] = Unit {0}
  BeginsOtherwise mark (run ∷ runs) = mark ≢ run.mark

  -- no two neighbours have the same mark
  abbrev pub NeighboursDiffer : List (Run M) → Type 0
  NeighboursDiffer [] = Unit {0}
  NeighboursDiffer (run ∷ runs) = BeginsOtherwise run.mark runs × NeighboursDiffer runs

  -- how many runs, from the first one on, end at or before this place
  abbrev pub ended_by : ℕ → List (Run M) → ℕ
  ended_by place [] = 0
  ended_by place (run ∷ runs) = if nat_le run.to place then suc (ended_by place runs) else 0

  -- how many runs, from the first one on, begin before this place
  abbrev pub begun_before : ℕ → List (Run M) → ℕ
  begun_before place [] = 0
  begun_before place (run ∷ runs) = if nat_lt run.from place then suc (begun_before place runs) else 0

  -- what lies at and past this place
  abbrev pub runs_from : ℕ → List (Run M) → List (Run M)
  runs_from place [] = []
  runs_from place (run ∷ runs) =
      if nat_le run.to place then runs_from place runs
      else record run { from = max run.from place } ∷ runs

  -- what lies below this place
  abbrev pub runs_below : ℕ → List (Run M) → List (Run M)
  runs_below place [] = []
  runs_below place (run ∷ runs) =
      if nat_lt run.from place then record run { to = min run.to place } ∷ runs_below place runs
      else []

  -- the runs are those of the marks, as few as can be
  pub record AreRunsOf (v : Marks M) (runs : List (Run M)) : Type 0 where
    pub places : LieSideBySide v.forgotten (marks_len v) runs
    pub marks : marks_of runs ≡ v.marks
    pub fewest : NeighboursDiffer runs

  -- what is kept of marks of fewer than 2^63 places
  pub record AreKept (forgotten len : ℕ) (runs : List (Run M)) : Type 0 where
    pub places : LieSideBySide forgotten len runs
    pub fewest : NeighboursDiffer runs
    pub bound : len < 2 ^ 63
