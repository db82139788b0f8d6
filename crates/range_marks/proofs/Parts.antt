-- Parts of marks, and marks put together of them.
use Rattle.std.proofs.Common.{◌≡◌, ℕ, zero, suc, ◌+◌, ◌-◌, ◌<◌, ◌≤◌, max, min, List, [], ◌∷◌, ◌++◌, length, get_or, take, drop, replicate, refl, sym, ap, ◌∙◌, subst, arith, append_assoc, append-nil, length-append, add-one, take-append-drop, ⊎_elim}
use Rattle.std.proofs.lemmas.Bool.{cases_lt}
use Rattle.std.proofs.lemmas.List.{drop-drop, take_all, length-drop, length-take-le, length-replicate}
use Rattle.range_marks.specs.declared.run.Run.{Run}
use Rattle.range_marks.specs.Marks.{Marks, marks_len, part, followed_by, after_extend, after_mark}
use Rattle.range_marks.specs.Runs.{marks_of, LieSideBySide}
use Rattle.range_marks.proofs.SideBySide.{run_within, length-marks_of}
use Rattle.range_marks.proofs.Cutting.{drop_run, drop_in_run, take_in_run}

module _ {M : Type 0} where
  take_sum : (n m k : ℕ) (xs : List M) → n + m ≡ k → take k xs ≡ take n xs ++ take m (drop n xs)
  take_sum zero m k xs e = let same : k ≡ m = omega arith in ap (λ i. take i xs) same
  take_sum (suc n) m zero xs e = absurd (omega arith)
  take_sum (suc n) zero (suc k) [] e = refl
  take_sum (suc n) (suc m) (suc k) [] e = refl
  take_sum (suc n) m (suc k) (x ∷ xs) e = ap (λ t. x ∷ t) (take_sum n m k xs (omega arith))

  -- places that lie in one run have its mark
  pub run_part : (runs : List (Run M)) (from to j : ℕ) (d : Run M) (a n : ℕ) → LieSideBySide from to runs → j < length runs
      → (get_or runs j d).from ≤ a → a + n ≤ (get_or runs j d).to → take n (drop (a - from) (marks_of runs)) ≡ replicate n (get_or runs j d).mark
  run_part [] from to j d a n side lt begins ends = absurd (omega arith)
  run_part (run ∷ runs) from to zero d a n side lt begins ends =
      rw (drop_in_run (run.to - run.from) (a - from) (run.to - a) run.mark (marks_of runs) (omega (arith, side.0)) (omega (arith, side.0, side.1)))
      (take_in_run (run.to - a) n run.mark (marks_of runs) (omega arith))
  run_part (run ∷ runs) from to (suc j) d a n side lt begins ends =
      let within = run_within runs run.to to side.2 j d (omega arith) in
      rw (drop_run (run.to - run.from) (a - from) (a - run.to) run.mark (marks_of runs) (omega (arith, side.0, side.1, within.0)) (omega (arith, side.0, side.1, within.0)))
      (run_part runs run.to to j d a n side.2 (omega arith) begins ends)

  -- a part and the places of a run after it
  pub part-more : (runs : List (Run M)) (from to j : ℕ) (d : Run M) (begin a b n : ℕ) → LieSideBySide from to runs → j < length runs
      → from ≤ begin → begin ≤ a → a + n ≡ b → (get_or runs j d).from ≤ a → b ≤ (get_or runs j d).to
      → part begin b (record { forgotten = from; marks = marks_of runs }) ≡ part begin a (record { forgotten = from; marks = marks_of runs }) ++ replicate n (get_or runs j d).mark
  part-more runs from to j d begin a b n side lt le le' e begins ends =
      take_sum (a - begin) n (b - begin) (drop (begin - from) (marks_of runs)) (omega arith)
      ∙ ap (λ (t : List M). take (a - begin) (drop (begin - from) (marks_of runs)) ++ t)
      (ap (λ (t : List M). take n t) (drop-drop (a - begin) (begin - from) (marks_of runs)) ∙
      ap (λ (k : ℕ). take n (drop k (marks_of runs))) (let k : begin - from + (a - begin) ≡ a - from = omega arith in k) ∙
      run_part runs from to j d a n side lt begins (omega arith))

  -- where a run begins and ends, by how many marks come before
  pub reach : (runs : List (Run M)) (from to i : ℕ) (d : Run M) → LieSideBySide from to runs → i < length runs
      → (from + length (marks_of (take i runs)) ≡ (get_or runs i d).from) × (from + length (marks_of (take (i + 1) runs)) ≡ (get_or runs i d).to)
  reach [] from to i d side lt = absurd (omega arith)
  reach (run ∷ runs) from to zero d side lt =
      (omega (arith, side.0), rw append-nil (omega (arith, side.0, side.1, length-replicate (run.to - run.from) run.mark)))
  reach (run ∷ runs) from to (suc i) d side lt =
      let rest = reach runs run.to to i d side.2 (omega arith) in
      let own = length-replicate (run.to - run.from) run.mark in (
        rw length-append (omega (arith, side.0, side.1, own, rest.0)),
        rw (add-one (suc i), length-append) (let next : from + (length (replicate (run.to - run.from) run.mark) + length (marks_of (take (i + 1) runs))) ≡ (get_or runs i d).to = omega (arith, side.0, side.1, own, rest.1) in rw (add-one i) at next),
      )

  pub reach-all : (runs : List (Run M)) (from to : ℕ) → LieSideBySide from to runs → from + length (marks_of (take (length runs) runs)) ≡ to
  reach-all runs from to side = rw (take_all (length runs) runs (omega arith)) (length-marks_of runs from to side)

  -- one run more, as far as it goes
  pub extended_by_run : (runs : List (Run M)) (from last i : ℕ) (run : Run M) (begin a b to : ℕ) → LieSideBySide from last runs → i < length runs
      → run ≡ get_or runs i run → from ≤ begin → begin ≤ a → a ≤ to → min to (from + length (marks_of (take i runs))) ≤ a → b ≡ max (min run.to to) a
      → (min to (from + length (marks_of (take (i + 1) runs))) ≤ b) × (b ≤ to)
      × (part begin b (record { forgotten = from; marks = marks_of runs }) ≡ part begin a (record { forgotten = from; marks = marks_of runs }) ++ replicate (b - a) run.mark)
  extended_by_run runs from last i run begin a b to side lt read le le' within come e =
      let at = reach runs from last i run side lt in
      let begins : (get_or runs i run).from ≡ run.from = ap (λ (r : Run M). r.from) (sym read) in
      let ends : (get_or runs i run).to ≡ run.to = ap (λ (r : Run M). r.to) (sym read) in (
        omega (arith, at.1, ends),
        omega arith,
        ⊎_elim
            (λ more. let marked : (get_or runs i run).mark ≡ run.mark = ap (λ (r : Run M). r.mark) (sym read) in
            part-more runs from last i run begin a b (b - a) side lt le le' (omega arith) (omega (arith, at.0)) (omega (arith, ends))
            ∙ ap (λ (m : M). part begin a (record { forgotten = from; marks = marks_of runs }) ++ replicate (b - a) m) marked)
            (λ same. let none : b - a ≡ 0 = omega arith in let equal : b ≡ a = omega arith in rw (none, equal, append-nil) refl)
            (cases_lt a b),
      )

  length-part : (begin a : ℕ) (v : Marks M) → v.forgotten ≤ begin → begin ≤ a → a ≤ marks_len v → length (part begin a v) ≡ a - begin
  length-part begin a v le le' within = length-take-le (a - begin) (drop (begin - v.forgotten) v.marks) (omega (arith, length-drop (begin - v.forgotten) v.marks))

  -- what a loop over the runs has put together so far, and one run more
  pub record Copied (v initial self : Marks M) (from to : ℕ) (before : List (Run M)) : Type 0 where
    pub come : min to (from + length (marks_of before)) ≤ marks_len self
    pub within : marks_len self ≤ to
    pub so_far : self ≡ followed_by (part (marks_len initial) (marks_len self) v) initial

  pub copied-more : (runs : List (Run M)) (from last i : ℕ) (run : Run M) (initial self new : Marks M) (b to : ℕ) → LieSideBySide from last runs → i < length runs
      → run ≡ get_or runs i run → from ≤ marks_len initial
      → Copied (record { forgotten = from; marks = marks_of runs }) initial self from to (take i runs)
      → b ≡ max (min run.to to) (marks_len self) → new ≡ after_extend (b - marks_len self) run.mark self
      → Copied (record { forgotten = from; marks = marks_of runs }) initial new from to (take (i + 1) runs)
  copied-more runs from last i run initial self new b to side lt read le so e made =
      let longer : marks_len initial ≤ marks_len self = (let length_is = ap (λ (v : Marks M). marks_len v) so.so_far in
      omega (arith, length_is, length-append initial.marks (part (marks_len initial) (marks_len self) (record { forgotten = from; marks = marks_of runs })))) in
      let step = extended_by_run runs from last i run (marks_len initial) (marks_len self) b to side lt read le longer so.within so.come e in
      let len_new : marks_len new ≡ b = (let length_is = ap (λ (v : Marks M). marks_len v) made in
      omega (arith, length_is, length-append self.marks (replicate (b - marks_len self) run.mark), length-replicate (b - marks_len self) run.mark, e)) in record {
        come = omega (arith, step.0, len_new);
        within = omega (arith, step.1, len_new);
        so_far = made
            ∙ ap (λ (s : Marks M). after_extend (b - marks_len self) run.mark s) so.so_far
            ∙ ap (λ (ms : List M). record initial { marks = ms }) (append_assoc initial.marks (part (marks_len initial) (marks_len self) (record { forgotten = from; marks = marks_of runs })) (replicate (b - marks_len self) run.mark))
            ∙ ap (λ (ms : List M). followed_by ms initial) (sym step.2)
            ∙ ap (λ (n : ℕ). followed_by (part (marks_len initial) n (record { forgotten = from; marks = marks_of runs })) initial) (sym len_new);
      }

  pub part-none : (begin : ℕ) (v : Marks M) → part begin begin v ≡ []
  part-none begin v = let none : begin - begin ≡ 0 = omega arith in rw none refl

  -- what is before a range, the range with its mark, and what is after it
  pub after_mark-parts : (v : Marks M) (from to begin : ℕ) (mark : M) → begin ≡ max from v.forgotten → begin < to → to ≤ marks_len v
      → ((part v.forgotten begin v ++ replicate (to - begin) mark) ++ part to (marks_len v) v) ≡ (after_mark from to mark v).marks
  after_mark-parts v from to begin mark e lt le =
      let none : v.forgotten - v.forgotten ≡ 0 = omega arith in
      let low : begin - v.forgotten ≡ from - v.forgotten = omega arith in
      let width : to - begin ≡ to - v.forgotten - (from - v.forgotten) = omega arith in
      let rest : take (v.forgotten + length v.marks - to) (drop (to - v.forgotten) v.marks) ≡ drop (to - v.forgotten) v.marks =
      take_all (v.forgotten + length v.marks - to) (drop (to - v.forgotten) v.marks) (omega (arith, length-drop (to - v.forgotten) v.marks)) in
      rw (append_assoc, none, low, width, rest) refl

  pub after_mark-nothing : (v : Marks M) (from to : ℕ) (mark : M) → from ≤ to → to ≤ max from v.forgotten → v.marks ≡ (after_mark from to mark v).marks
  after_mark-nothing v from to mark le few =
      let none : to - v.forgotten - (from - v.forgotten) ≡ 0 = omega arith in
      let same : to - v.forgotten ≡ from - v.forgotten = omega arith in
      rw (none, same) (sym (take-append-drop (from - v.forgotten) v.marks))

  pub copied-none : (v initial : Marks M) (to : ℕ) → v.forgotten ≤ marks_len initial → marks_len initial ≤ to → Copied v initial initial v.forgotten to []
  copied-none v initial to begins order = record {
    come = omega arith;
    within = order;
    so_far = sym (ap (λ (ms : List M). record initial { marks = ms }) (append-nil initial.marks))
        ∙ ap (λ (ms : List M). followed_by ms initial) (sym (part-none (marks_len initial) v));
  }

  pub copied-all : (runs : List (Run M)) (from last to : ℕ) (initial self : Marks M) → LieSideBySide from last runs → to ≤ last
      → Copied (record { forgotten = from; marks = marks_of runs }) initial self from to runs
      → self ≡ followed_by (part (marks_len initial) to (record { forgotten = from; marks = marks_of runs })) initial
  copied-all runs from last to initial self side within so =
      let all : marks_len self ≡ to = omega (arith, so.come, so.within, length-marks_of runs from last side) in
      so.so_far ∙ ap (λ (n : ℕ). followed_by (part (marks_len initial) n (record { forgotten = from; marks = marks_of runs })) initial) all

  -- ---- marks put together anew, one range of them with another mark
  pub kept_len : (v m0 m1 : Marks M) (from : ℕ) → v.forgotten ≤ from → from ≤ marks_len v → m0 ≡ record { forgotten = v.forgotten; marks = [] }
      → m1 ≡ followed_by (part (marks_len m0) from v) m0 → (marks_len m0 ≡ v.forgotten) × (marks_len m1 ≡ from)
  kept_len v m0 m1 from le within e0 e1 =
      let len0 : marks_len m0 ≡ v.forgotten = ap (λ (m : Marks M). marks_len m) e0 ∙ omega arith in
      let len1 = ap (λ (m : Marks M). marks_len m) e1 in
      let Q : ℕ → Type 0 = λ n. length (part n from v) ≡ from - n in
      let whole = subst Q (sym len0) (length-part v.forgotten from v (omega arith) le within) in
      (len0, omega (arith, len1, length-append m0.marks (part (marks_len m0) from v), whole, len0))

  pub marked_len : (m1 m2 : Marks M) (from to : ℕ) (mark : M) → marks_len m1 ≡ from → from ≤ to → m2 ≡ after_extend (to - from) mark m1 → marks_len m2 ≡ to
  marked_len m1 m2 from to mark len1 le e2 =
      let len2 = ap (λ (m : Marks M). marks_len m) e2 in
      omega (arith, len2, len1, length-append m1.marks (replicate (to - from) mark), length-replicate (to - from) mark)

  pub marked_is : (v m0 m1 m2 m3 : Marks M) (from to : ℕ) (mark : M) → v.forgotten ≤ from → from < to → to ≤ marks_len v
      → m0 ≡ record { forgotten = v.forgotten; marks = [] } → m1 ≡ followed_by (part (marks_len m0) from v) m0
      → m2 ≡ after_extend (to - from) mark m1 → m3 ≡ followed_by (part (marks_len m2) (marks_len v) v) m2
      → m3 ≡ after_mark from to mark v
  marked_is v m0 m1 m2 m3 from to mark le lt within e0 e1 e2 e3 =
      let lens = kept_len v m0 m1 from le (omega arith) e0 e1 in
      let len2 = marked_len m1 m2 from to mark lens.1 (omega arith) e2 in
      let first : m1 ≡ record { forgotten = v.forgotten; marks = part v.forgotten from v } =
      e1 ∙ ap (λ (n : ℕ). followed_by (part n from v) m0) lens.0 ∙ ap (λ (m : Marks M). followed_by (part v.forgotten from v) m) e0 in
      let second : m2 ≡ record { forgotten = v.forgotten; marks = part v.forgotten from v ++ replicate (to - from) mark } =
      e2 ∙ ap (λ (m : Marks M). after_extend (to - from) mark m) first in
      e3 ∙ ap (λ (n : ℕ). followed_by (part n (marks_len v) v) m2) len2 ∙ ap (λ (m : Marks M). followed_by (part to (marks_len v) v) m) second
      ∙ ap (λ (ms : List M). record { forgotten = v.forgotten; marks = ms }) (after_mark-parts v from to from mark (omega arith) lt within)

  pub after_mark-max : (v : Marks M) (from to : ℕ) (mark : M) → after_mark (max from v.forgotten) to mark v ≡ after_mark from to mark v
  after_mark-max v from to mark = let same : max from v.forgotten - v.forgotten ≡ from - v.forgotten = omega arith in rw same refl

  pub after_mark-none : (v : Marks M) (from to : ℕ) (mark : M) → from ≤ to → to ≤ max from v.forgotten → v ≡ after_mark from to mark v
  after_mark-none v from to mark le few = ap (λ (ms : List M). record { forgotten = v.forgotten; marks = ms }) (after_mark-nothing v from to mark le few)
