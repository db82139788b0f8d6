-- What the changes of marks promise of whole runs of them.
use Rattle.std.specs.Prelude.{ℕ, ◌≡◌, ◌<◌, ◌≤◌, None, List, [], ◌∷◌}
use Rattle.range_marks.specs.Marks.{Marks, marks_len, mark_at, after_extend, after_mark, after_drop_front, after_cut_back}

module _ (M : Type 0) where
  -- marks that are put at ranges without a common place may be put in either order
  abbrev pub DisjointMarksCommute : Type 0
  DisjointMarksCommute = (v : Marks M) (from to from' to' : ℕ) (mark mark' : M)
      → from ≤ to → to ≤ from' → from' ≤ to' → to' ≤ marks_len v
      → after_mark from to mark (after_mark from' to' mark' v) ≡ after_mark from' to' mark' (after_mark from to mark v)

  -- of two marks at one range the last one stands
  abbrev pub LastMarkStands : Type 0
  LastMarkStands = (v : Marks M) (from to : ℕ) (mark mark' : M) → from ≤ to → to ≤ marks_len v
      → after_mark from to mark' (after_mark from to mark v) ≡ after_mark from to mark' v

-- a change of marks
pub data Change (M : Type 0) : Type 0 where
  Extend : ℕ → M → Change M
  Put : ℕ → ℕ → M → Change M
  DropFront : ℕ → Change M
  CutBack : ℕ → Change M

abbrev pub after_change : {M : Type 0} → Change M → Marks M → Marks M
after_change (Extend count mark) v = after_extend count mark v
after_change (Put from to mark) v = after_mark from to mark v
after_change (DropFront to) v = after_drop_front to v
after_change (CutBack to) v = after_cut_back to v

-- the marks after these changes, the first one first
abbrev pub after_changes : {M : Type 0} → List (Change M) → Marks M → Marks M
after_changes [] v = v
after_changes (change ∷ changes) v = after_changes changes (after_change change v)

module _ (M : Type 0) where
  -- whatever comes after, a place that was forgotten is never told again
  abbrev pub ForgottenPlacesStayForgotten : Type 0
  ForgottenPlacesStayForgotten = (v : Marks M) (to place : ℕ) (changes : List (Change M)) → place < to
      → mark_at (after_changes changes (after_drop_front to v)) place ≡ None
