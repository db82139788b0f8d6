-- Marks by place: how many places are forgotten, and one mark for each place after these.
use Rattle.std.specs.Prelude.{ℕ, ◌≡◌, ◌≢◌, ◌+◌, ◌-◌, ◌<◌, ◌≤◌, max, nat_lt, if◌then◌else◌, Option, Some, None, List, [], ◌++◌, length, take, drop, replicate, slice_get}

pub record Marks (M : Type 0) : Type 0 where
  pub forgotten : ℕ
  pub marks : List M

module _ {M : Type 0} where
  -- no place
  abbrev pub no_marks : Marks M
  no_marks = record { forgotten = 0; marks = [] }

  -- how many places there are, forgotten ones included
  abbrev pub marks_len : Marks M → ℕ
  marks_len v = v.forgotten + length v.marks

  -- the mark of a place, where it is neither forgotten nor past the last one
  abbrev pub mark_at : Marks M → ℕ → Option M
  mark_at v place = if nat_lt place v.forgotten then None else slice_get v.marks (place - v.forgotten)

  -- the marks with `count` places more, each with this mark
  abbrev pub after_extend : ℕ → M → Marks M → Marks M
  after_extend count mark v = record v { marks = v.marks ++ replicate count mark }

  -- the places from `from` on and below `to` have this mark, except forgotten ones
  abbrev pub after_mark : ℕ → ℕ → M → Marks M → Marks M
  after_mark from to mark v =
      let lo = from - v.forgotten in
      let hi = to - v.forgotten in
      record v { marks = take lo v.marks ++ (replicate (hi - lo) mark ++ drop hi v.marks) }

  -- the places below `to` are forgotten
  abbrev pub after_drop_front : ℕ → Marks M → Marks M
  after_drop_front to v = record { forgotten = max v.forgotten to; marks = drop (to - v.forgotten) v.marks }

  -- the places at and past `to` are gone
  abbrev pub after_cut_back : ℕ → Marks M → Marks M
  after_cut_back to v = record v { marks = take (to - v.forgotten) v.marks }

  -- the marks of the places from `from` on and below `to`, of which none is forgotten
  abbrev pub part : ℕ → ℕ → Marks M → List M
  part from to v = take (to - from) (drop (from - v.forgotten) v.marks)

  -- the marks with some more behind them
  abbrev pub followed_by : List M → Marks M → Marks M
  followed_by marks v = record v { marks = v.marks ++ marks }

  -- every place from `at` on and below `end` has this mark, and the place `end` hasn't
  pub record IsRunAt (v : Marks M) (at end : ℕ) (mark : M) : Type 0 where
    pub not_empty : at < end
    pub marked : (place : ℕ) → at ≤ place → place < end → mark_at v place ≡ Some mark
    pub greatest : mark_at v end ≢ Some mark

  -- the first place at or after `from` with this mark
  pub record IsFirstWhere (v : Marks M) (from : ℕ) (mark : M) (place : ℕ) : Type 0 where
    pub not_before : from ≤ place
    pub marked : mark_at v place ≡ Some mark
    pub first : (k : ℕ) → from ≤ k → k < place → mark_at v k ≢ Some mark
