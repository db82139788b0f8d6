-- Runs in order: what is told of a position, and what a run does that is put in.
use Rattle.std.proofs.Common.{◌≡◌, ◌≢◌, ℕ, ◌+◌, ◌-◌, ◌^◌, ◌<◌, ◌≤◌, Bool, true, false, max, min, nat_lt, cond, Option, Some, None, List, [], ◌∷◌, ◌++◌, length, take, drop, get_or, refl, sym, ap, ◌∙◌, subst, zero, suc, ⊎_elim, arith}
use Rattle.std.specs.Prelude.{IfSome}
use Rattle.std.specs.Option.{option_or}
use Rattle.std.specs.List.{prefix_len}
use Rattle.std.specs.List.Sorted.{IsNonDecreasingBy}
use Rattle.std.proofs.lemmas.Bool.Decides.{nat_tests}
use Rattle.std.proofs.lemmas.Bool.{cases_lt}
use Rattle.std.proofs.lemmas.List.{drop_all}
use Rattle.std.proofs.Math.Seq.{drop-cons}
use Rattle.std.proofs.lemmas.List.Sums.{prefix_len_is, prefix_len_passes, prefix_len_stops, prefix_len-le-length}
use Rattle.dss_mapping.specs.declared.run.Run.{Run}
use Rattle.dss_mapping.specs.declared.stretch.Stretch.{Stretch}
use Rattle.dss_mapping.specs.Mappings.{tail_at}
use Rattle.dss_mapping.specs.Runs.{covers, place_in, IsSound}
use Rattle.dss_mapping.specs.Kept.{AreOrdered, place_among, place_by, IsStretch, AgreeAmong, joins, joined, lies_before, absorbed, count_joined, AreApart}
use Rattle.dss_mapping.proofs.PlacesOf.{within, below, behind}

-- ---- their order
past : (from j : ℕ) (runs : List Run) (d : Run) → AreOrdered from runs → j < length runs → from < (get_or runs j d).to
past from j [] d o h = absurd (omega (arith, h))
past from zero (run ∷ runs) d o h = omega (arith, o.0, o.1)
past from (suc j) (run ∷ runs) d o h = omega (arith, o.0, o.1, past run.to j runs d o.3 (omega (arith, h)))

pub ends_rise : (from i j : ℕ) (runs : List Run) (d : Run) → AreOrdered from runs → i < j → j < length runs → (get_or runs i d).to < (get_or runs j d).to
ends_rise from i j [] d o h k = absurd (omega (arith, k))
ends_rise from i zero (run ∷ runs) d o h k = absurd (omega (arith, h))
ends_rise from zero (suc j) (run ∷ runs) d o h k = past run.to j runs d o.3 (omega (arith, k))
ends_rise from (suc i) (suc j) (run ∷ runs) d o h k = ends_rise run.to i j runs d o.3 (omega (arith, h)) (omega (arith, k))

pub ends_never_fall : (from : ℕ) (runs : List Run) → AreOrdered from runs → IsNonDecreasingBy (λ run. run.to) runs
ends_never_fall from runs o i j d h k = ⊎_elim
    (λ less. let rise : (get_or runs i d).to < (get_or runs j d).to = ends_rise from i j runs d o less k in omega (arith, rise))
    (λ (more : j ≤ i). let same : i ≡ j = omega (arith, h, more) in rw same (omega arith))
    (cases_lt i j)

pub ordered-later : (from to : ℕ) (runs : List Run) → AreOrdered to runs → from ≤ to → AreOrdered from runs
ordered-later from to [] o h = tt
ordered-later from to (run ∷ runs) o h = (omega (arith, o.0), o.1, o.2, o.3)

pub ordered-drop : (n : ℕ) (runs : List Run) → AreOrdered 0 runs → AreOrdered 0 (drop n runs)
ordered-drop zero runs o = o
ordered-drop (suc n) [] o = tt
ordered-drop (suc n) (run ∷ runs) o = ordered-drop n runs (ordered-later 0 run.to runs o.3 (omega arith))

pub sound_at : (from i : ℕ) (runs : List Run) (d : Run) → AreOrdered from runs → i < length runs → IsSound (get_or runs i d)
sound_at from i [] d o h = absurd (omega (arith, h))
sound_at from zero (run ∷ runs) d o h = o.2
sound_at from (suc i) (run ∷ runs) d o h = sound_at run.to i runs d o.3 (omega (arith, h))

-- ---- places
pub covered : (p : ℕ) (run : Run) (runs : List Run) → run.pos ≤ p → p < run.to → place_among p (run ∷ runs) ≡ Some (place_in p run)
covered p run runs h k = rw (within run.pos p run.to h k) refl

pub ended : (p : ℕ) (run : Run) (runs : List Run) → run.to ≤ p → place_among p (run ∷ runs) ≡ place_among p runs
ended p run runs h = rw (behind run.pos p run.to h) refl

pub none_below : (from p : ℕ) (runs : List Run) → AreOrdered from runs → p < from → place_among p runs ≡ None
none_below from p [] o h = refl
none_below from p (run ∷ runs) o h =
    rw (below run.pos p run.to (omega (arith, o.0))) (none_below run.to p runs o.3 (omega (arith, o.0, o.1)))

-- position 2 ^ 64 - 1, and none past it, has a place
none_past : (from p : ℕ) (runs : List Run) → AreOrdered from runs → 2 ^ 64 ≤ p + 1 → place_among p runs ≡ None
none_past from p [] o h = refl
none_past from p (run ∷ runs) o h = ended p run runs (omega (arith, o.2.1, h)) ∙ none_past run.to p runs o.3 h

none_in_tail : (tail : Option Run) (p : ℕ) → IfSome tail IsSound → 2 ^ 64 ≤ p + 1 → tail_at tail p ≡ None
none_in_tail None p s h = refl
none_in_tail (Some run) p s h = rw (behind run.pos p run.to (omega (arith, s.1, h))) refl

pub none_at_the_end : (runs : List Run) (tail : Option Run) (p : ℕ) → AreOrdered 0 runs → IfSome tail IsSound → 2 ^ 64 ≤ p + 1 → place_by runs tail p ≡ None
none_at_the_end runs tail p o s h = ap (λ o. option_or o (tail_at tail p)) (none_past 0 p runs o h) ∙ none_in_tail tail p s h

-- ---- runs that join
record Joined (told run : Run) : Type 0 where
  pub low : run.pos ≤ told.to
  pub high : told.pos ≤ run.to
  pub same : run.place + told.pos ≡ told.place + run.pos

joins_tells : (told run : Run) → told.pos < told.to → run.pos < run.to → joins told run ≡ true → Joined told run
joins_tells told run h k e = record { low = grind (arith, nat_tests); high = grind (arith, nat_tests); same = grind (arith, nat_tests) }

no_join : (told run : Run) → told.pos < told.to → run.pos < run.to → joins told run ≡ false → run.pos < told.to → told.pos < run.to
    → place_in (max run.pos told.pos) run ≢ place_in (max run.pos told.pos) told
no_join told run a b e h k = grind (arith, nat_tests)

-- a position of the joined run has the place that one of both gives it
joined-at : (told run : Run) (p : ℕ) (rest : Option ℕ) → told.pos < told.to → run.pos < run.to → Joined told run
    → cond (covers p (joined told run)) (Some (place_in p (joined told run))) rest
    ≡ cond (covers p told) (Some (place_in p told)) (cond (covers p run) (Some (place_in p run)) rest)
joined-at told run p rest h k j = ⊎_elim
    (λ a. rw (below (min told.pos run.pos) p (max told.to run.to) a, below told.pos p told.to (omega arith), below run.pos p run.to (omega arith)) refl)
    (λ a. ⊎_elim
    (λ b. rw (within (min told.pos run.pos) p (max told.to run.to) a b) (inside a b))
    (λ b. rw (behind (min told.pos run.pos) p (max told.to run.to) b, behind told.pos p told.to (omega arith), behind run.pos p run.to (omega arith)) refl)
    (cases_lt p (max told.to run.to)))
    (cases_lt p (min told.pos run.pos))
  where
    by_run : run.pos ≤ p → p < run.to → (covers p told ≡ false)
        → Some (place_in p (joined told run)) ≡ cond (covers p told) (Some (place_in p told)) (cond (covers p run) (Some (place_in p run)) rest)
    by_run a b e = rw (e, within run.pos p run.to a b) (ap Some (omega (arith, j.low, j.high, j.same)))

    inside : min told.pos run.pos ≤ p → p < max told.to run.to
        → Some (place_in p (joined told run)) ≡ cond (covers p told) (Some (place_in p told)) (cond (covers p run) (Some (place_in p run)) rest)
    inside a b = ⊎_elim
        (λ c. by_run (omega arith) (omega (arith, j.high)) (below told.pos p told.to c))
        (λ c. ⊎_elim
        (λ d. rw (within told.pos p told.to c d) (ap Some (omega (arith, j.low, j.high, j.same))))
        (λ d. by_run (omega (arith, j.low)) (omega arith) (behind told.pos p told.to d))
        (cases_lt p told.to))
        (cases_lt p told.pos)

pub joined-sound : (told run : Run) → told.pos < told.to → run.pos < run.to → joins told run ≡ true → IsSound told → IsSound run → IsSound (joined told run)
joined-sound told run h k e a b =
    let j : Joined told run = joins_tells told run h k e in
    (omega (arith, j.low, j.high, j.same, a.0, b.0), omega (arith, a.1, b.1))

-- ---- a run that is put in takes up those behind it that it joins
abbrev pub into : Run → List Run → List Run
into told runs = absorbed told runs ∷ drop (count_joined told runs) runs

-- the first of the runs doesn't lie before the told one
abbrev Front : Run → List Run → Type 0
Front told [] = Unit {0}
Front told (run ∷ runs) = lies_before told run ≡ false

not_before : (told run : Run) → told.pos < run.to → lies_before told run ≡ false
not_before told run h = grind (arith, nat_tests)

front_tells : (told run : Run) → joins told run ≡ false → lies_before told run ≡ false → told.pos < run.to
front_tells told run e f = grind (arith, nat_tests)

front_after : (told run : Run) (runs : List Run) → AreOrdered run.to runs → run.pos < run.to → Front (joined told run) runs
front_after told run [] o h = tt
front_after told run (next ∷ runs) o h = not_before (joined told run) next (omega (arith, o.0, o.1))

agree_after : (told run : Run) (runs : List Run) → AreOrdered run.to runs → told.pos < told.to → run.pos < run.to → Joined told run
    → AgreeAmong told (run ∷ runs) → AgreeAmong (joined told run) runs
agree_after told run runs o h k j a = record {
  each = λ p from to. ⊎_elim
      (λ low. subst (λ o. IfSome o (λ place. place ≡ place_in p (joined told run))) (sym (none_below run.to p runs o low)) tt)
      (λ high.
      let own : place_in p told ≡ place_in p (joined told run) = omega (arith, j.low, j.high, j.same) in
      let here : IfSome (place_among p (run ∷ runs)) (λ place. place ≡ place_in p told) = a.each p (omega (arith, j.high)) (omega arith) in
      subst (λ q. IfSome (place_among p runs) (λ place. place ≡ q)) own
      (subst (λ o. IfSome o (λ place. place ≡ place_in p told)) (ended p run runs high) here))
      (cases_lt p run.to);
}

into-places : (told : Run) (at : ℕ) (runs : List Run) (p : ℕ) → AreOrdered at runs → told.pos < told.to → AgreeAmong told runs
    → place_among p (into told runs) ≡ cond (covers p told) (Some (place_in p told)) (place_among p runs)
into-places told at [] p o h a = refl
into-places told at (run ∷ runs) p o h a = by (joins told run) refl (λ e.
    let j : Joined told run = joins_tells told run h o.1 e in
    into-places (joined told run) run.to runs p o.3 (omega (arith, o.1)) (agree_after told run runs o.3 h o.1 j a)
    ∙ joined-at told run p (place_among p runs) h o.1 j)
  where
    by : (b : Bool) → joins told run ≡ b
        → (joins told run ≡ true → place_among p (into (joined told run) runs) ≡ cond (covers p told) (Some (place_in p told)) (place_among p (run ∷ runs)))
        → place_among p (cond b (absorbed (joined told run) runs) told ∷ drop (cond b (suc (count_joined (joined told run) runs)) 0) (run ∷ runs))
        ≡ cond (covers p told) (Some (place_in p told)) (place_among p (run ∷ runs))
    by true e rest = rest e
    by false e rest = refl

-- one that isn't joined begins at or after the end of the told one
gap : (told run : Run) (runs : List Run) → told.pos < told.to → run.pos < run.to → joins told run ≡ false → lies_before told run ≡ false
    → AgreeAmong told (run ∷ runs) → told.to ≤ run.pos
gap told run runs h k e f a = ⊎_elim
    (λ low.
    let high : told.pos < run.to = front_tells told run e f in
    let here : IfSome (Some (place_in (max run.pos told.pos) run)) (λ place. place ≡ place_in (max run.pos told.pos) told) =
    subst (λ o. IfSome o (λ place. place ≡ place_in (max run.pos told.pos) told)) (covered (max run.pos told.pos) run runs (omega arith) (omega arith))
    (a.each (max run.pos told.pos) (omega arith) (omega arith)) in
    absurd (no_join told run h k e low high here))
    (λ past. past)
    (cases_lt run.pos told.to)

into-ordered : (told : Run) (at : ℕ) (runs : List Run) → AreOrdered at runs → at ≤ told.pos → told.pos < told.to → IsSound told → Front told runs
    → AgreeAmong told runs → AreOrdered at (into told runs)
into-ordered told at [] o l h s f a = (l, h, s, tt)
into-ordered told at (run ∷ runs) o l h s f a = by (joins told run) refl (λ e.
    let j : Joined told run = joins_tells told run h o.1 e in
    into-ordered (joined told run) at runs (ordered-later at run.to runs o.3 (omega (arith, o.0, o.1))) (omega (arith, o.0)) (omega (arith, o.1))
    (joined-sound told run h o.1 e s o.2) (front_after told run runs o.3 o.1) (agree_after told run runs o.3 h o.1 j a))
  where
    by : (b : Bool) → joins told run ≡ b → (joins told run ≡ true → AreOrdered at (into (joined told run) runs))
        → AreOrdered at (cond b (absorbed (joined told run) runs) told ∷ drop (cond b (suc (count_joined (joined told run) runs)) 0) (run ∷ runs))
    by true e rest = rest e
    by false e rest = (l, h, s, (gap told run runs h o.1 e f a, o.1, o.2, o.3))

-- ---- and stays behind those that lie before it
abbrev pub put : Run → ℕ → List Run → List Run
put told n runs = take n runs ++ into told (drop n runs)

agree_behind : (told run : Run) (runs : List Run) → run.to ≤ told.pos → AgreeAmong told (run ∷ runs) → AgreeAmong told runs
agree_behind told run runs h a = record {
  each = λ p from to. subst (λ o. IfSome o (λ place. place ≡ place_in p told)) (ended p run runs (omega arith)) (a.each p from to);
}

before_ends : (told run : Run) → lies_before told run ≡ true → run.to ≤ told.pos
before_ends told run e = grind (arith, nat_tests)

apart : (told run : Run) (p : ℕ) (rest : Option ℕ) → run.to ≤ told.pos
    → cond (covers p run) (Some (place_in p run)) (cond (covers p told) (Some (place_in p told)) rest)
    ≡ cond (covers p told) (Some (place_in p told)) (cond (covers p run) (Some (place_in p run)) rest)
apart told run p rest h = ⊎_elim
    (λ a. rw (below told.pos p told.to a) refl)
    (λ a. rw (behind run.pos p run.to (omega arith)) refl)
    (cases_lt p told.pos)

put-places : (told : Run) (at n : ℕ) (runs : List Run) (p : ℕ) → n ≡ prefix_len (lies_before told) runs → AreOrdered at runs → told.pos < told.to
    → AgreeAmong told runs → place_among p (put told n runs) ≡ cond (covers p told) (Some (place_in p told)) (place_among p runs)
put-places told at zero [] p e o h a = refl
put-places told at (suc n) [] p e o h a = absurd (omega (arith, e))
put-places told at n (run ∷ runs) p e o h a =
    by n (lies_before told run) refl e (λ m k f. put-places told run.to m runs p k o.3 h (agree_behind told run runs (before_ends told run f) a))
  where
    by : (n : ℕ) (b : Bool) → lies_before told run ≡ b → n ≡ cond b (1 + prefix_len (lies_before told) runs) 0
        → ((m : ℕ) → m ≡ prefix_len (lies_before told) runs → lies_before told run ≡ true
        → place_among p (put told m runs) ≡ cond (covers p told) (Some (place_in p told)) (place_among p runs))
        → place_among p (put told n (run ∷ runs)) ≡ cond (covers p told) (Some (place_in p told)) (place_among p (run ∷ runs))
    by zero true f k rest = absurd (omega (arith, k))
    by (suc n) true f k rest =
        ap (cond (covers p run) (Some (place_in p run))) (rest n (omega (arith, k)) f)
        ∙ apart told run p (place_among p runs) (before_ends told run f)
    by zero false f k rest = into-places told at (run ∷ runs) p o h a
    by (suc n) false f k rest = absurd (omega (arith, k))

put-ordered : (told : Run) (at n : ℕ) (runs : List Run) → n ≡ prefix_len (lies_before told) runs → AreOrdered at runs → at ≤ told.pos → told.pos < told.to
    → IsSound told → AgreeAmong told runs → AreOrdered at (put told n runs)
put-ordered told at zero [] e o l h s a = (l, h, s, tt)
put-ordered told at (suc n) [] e o l h s a = absurd (omega (arith, e))
put-ordered told at n (run ∷ runs) e o l h s a =
    by n (lies_before told run) refl e
    (λ m k f. put-ordered told run.to m runs k o.3 (before_ends told run f) h s (agree_behind told run runs (before_ends told run f) a))
  where
    by : (n : ℕ) (b : Bool) → lies_before told run ≡ b → n ≡ cond b (1 + prefix_len (lies_before told) runs) 0
        → ((m : ℕ) → m ≡ prefix_len (lies_before told) runs → lies_before told run ≡ true → AreOrdered run.to (put told m runs))
        → AreOrdered at (put told n (run ∷ runs))
    by zero true f k rest = absurd (omega (arith, k))
    by (suc n) true f k rest = (o.0, o.1, o.2, rest n (omega (arith, k)) f)
    by zero false f k rest = into-ordered told at (run ∷ runs) o l h s f a
    by (suc n) false f k rest = absurd (omega (arith, k))

drop-drop : (n k m : ℕ) (runs : List Run) → m ≡ n + k → drop m runs ≡ drop k (drop n runs)
drop-drop zero k m runs e = ap (λ i. drop i runs) (e ∙ omega arith)
drop-drop (suc n) k zero runs e = absurd (omega (arith, e))
drop-drop (suc n) zero (suc m) [] e = refl
drop-drop (suc n) (suc k) (suc m) [] e = refl
drop-drop (suc n) k (suc m) (run ∷ runs) e = drop-drop n k m runs (omega (arith, e))

-- the part of a list from a place on
pub part_is : (n k : ℕ) (part runs : List Run) → part ≡ runs → k ≡ length part - n → take k (drop n part) ≡ drop n runs
part_is n k part runs e f = rw (← e) (whole n k part f)
  where
    whole : (n k : ℕ) (part : List Run) → k ≡ length part - n → take k (drop n part) ≡ drop n part
    whole zero zero [] f = refl
    whole zero (suc k) [] f = refl
    whole (suc n) zero [] f = refl
    whole (suc n) (suc k) [] f = refl
    whole zero zero (run ∷ part) f = absurd (omega (arith, f))
    whole zero (suc k) (run ∷ part) f = ap (λ rest. run ∷ rest) (whole zero k part (omega (arith, f)))
    whole (suc n) k (run ∷ part) f = whole n k part (omega (arith, f))

pub put-is : (told run : Run) (n count to : ℕ) (runs : List Run) → run ≡ absorbed told (drop n runs) → count ≡ count_joined told (drop n runs) → to ≡ n + count
    → take n runs ++ run ∷ drop to runs ≡ put told n runs
put-is told run n count to runs e f g =
    rw (e, drop-drop n count to runs g, f) refl

pub placed_by_put : (told : Run) (n : ℕ) (runs : List Run) (p : ℕ) → n ≡ prefix_len (lies_before told) runs → AreOrdered 0 runs → told.pos < told.to
    → AgreeAmong told runs → place_among p (put told n runs) ≡ cond (covers p told) (Some (place_in p told)) (place_among p runs)
placed_by_put told n runs p e o h a = put-places told 0 n runs p e o h a

pub ordered_by_put : (told : Run) (n : ℕ) (runs : List Run) → n ≡ prefix_len (lies_before told) runs → AreOrdered 0 runs → told.pos < told.to
    → IsSound told → AgreeAmong told runs → AreOrdered 0 (put told n runs)
ordered_by_put told n runs e o h s a = put-ordered told 0 n runs e o (omega arith) h s a

-- ---- how many runs lie before the told one
before_count : (told : Run) (n : ℕ) (runs : List Run) (d : Run) → AreOrdered 0 runs → n ≡ prefix_len (λ run. nat_lt run.to told.pos) runs
    → (k : ℕ) → k < n → lies_before told (get_or runs k d) ≡ true
before_count told n runs d o e k h =
    let short : nat_lt (get_or runs k d).to told.pos ≡ true = prefix_len_passes (λ run. nat_lt run.to told.pos) runs k d (omega (arith, e, h)) in
    ends_before told (get_or runs k d) short
  where
    ends_before : (told run : Run) → nat_lt run.to told.pos ≡ true → lies_before told run ≡ true
    ends_before told run e = grind (arith, nat_tests)

-- a run at which the first ones end isn't shorter
stops_tells : (run : Run) (pos : ℕ) → nat_lt run.to pos ≡ false → pos ≤ run.to
stops_tells run pos e = grind (arith, nat_tests)

pub reached : (run : Run) (pos n : ℕ) (runs : List Run) → n ≡ prefix_len (λ run. nat_lt run.to pos) runs → n < length runs → run ≡ get_or runs n run → pos ≤ run.to
reached run pos n runs e h is =
    let stop : nat_lt (get_or runs n run).to pos ≡ false =
    subst (λ k. nat_lt (get_or runs k run).to pos ≡ false) (sym e) (prefix_len_stops (λ (run : Run). nat_lt run.to pos) runs run (omega (arith, e, h))) in
    stops_tells run pos (subst (λ (r : Run). nat_lt r.to pos ≡ false) (sym is) stop)

-- where one ends at its first position and doesn't join it, that lies before it too
pub one_more_before : (told run : Run) (n : ℕ) (runs : List Run) → AreOrdered 0 runs → n ≡ prefix_len (λ run. nat_lt run.to told.pos) runs
    → n < length runs → run ≡ get_or runs n run → lies_before told run ≡ true → n + 1 ≡ prefix_len (lies_before told) runs
one_more_before told run n runs o e h is f =
    sym (prefix_len_is (lies_before told) runs (n + 1) run (omega arith)
    (λ k lt. ⊎_elim (λ low. before_count told n runs run o e k low)
    (λ (high : n ≤ k). let same : k ≡ n = omega (arith, lt, high) in rw (same, ← is) f) (cases_lt k n))
    (λ lt. let later : (get_or runs n run).to < (get_or runs (n + 1) run).to = ends_rise 0 n (n + 1) runs run o (omega arith) lt in
    let ends : (get_or runs n run).to ≡ run.to = ap (λ (r : Run). r.to) (sym is) in
    let reach : told.pos ≤ run.to = reached run told.pos n runs e h is in
    not_before told (get_or runs (n + 1) run) (omega (arith, later, ends, reach))))

pub none_before : (told : Run) (n : ℕ) (runs : List Run) → AreOrdered 0 runs → n ≡ prefix_len (λ run. nat_lt run.to told.pos) runs
    → length runs ≤ n → n ≡ prefix_len (lies_before told) runs
none_before told n runs o e h =
    let d : Run = record { pos = 0; place = 0; to = 0 } in
    let le : prefix_len (λ (run : Run). nat_lt run.to told.pos) runs ≤ length runs = prefix_len-le-length (λ (run : Run). nat_lt run.to told.pos) runs in
    sym (prefix_len_is (lies_before told) runs n d (omega (arith, e, le)) (before_count told n runs d o e) (λ lt. absurd (omega (arith, lt, h))))

pub this_not_before : (told run : Run) (n : ℕ) (runs : List Run) → AreOrdered 0 runs → n ≡ prefix_len (λ run. nat_lt run.to told.pos) runs
    → n < length runs → run ≡ get_or runs n run → lies_before told run ≡ false → n ≡ prefix_len (lies_before told) runs
this_not_before told run n runs o e h is f =
    sym (prefix_len_is (lies_before told) runs n run (omega arith) (before_count told n runs run o e) (λ lt. rw (← is) f))

-- ---- the runs from the first one on that isn't passed over
pub passed : (at p : ℕ) (runs : List Run) (n : ℕ) → at ≤ p → n ≡ prefix_len (λ run. nat_lt run.to (at + 1)) runs → place_among p runs ≡ place_among p (drop n runs)
passed at p [] zero h e = refl
passed at p [] (suc n) h e = refl
passed at p (run ∷ runs) n h e = by n (nat_lt run.to (at + 1)) refl e (λ m k. passed at p runs m h k)
  where
    ends : (run : Run) → nat_lt run.to (at + 1) ≡ true → run.to ≤ p
    ends run f = grind (arith, nat_tests)

    by : (n : ℕ) (b : Bool) → nat_lt run.to (at + 1) ≡ b → n ≡ cond b (1 + prefix_len (λ run. nat_lt run.to (at + 1)) runs) 0
        → ((m : ℕ) → m ≡ prefix_len (λ run. nat_lt run.to (at + 1)) runs → place_among p runs ≡ place_among p (drop m runs))
        → place_among p (run ∷ runs) ≡ place_among p (drop n (run ∷ runs))
    by zero b f k rest = refl
    by (suc n) true f k rest = ended p run runs (ends run f) ∙ rest n (omega (arith, k))
    by (suc n) false f k rest = absurd (omega (arith, k))

-- the place of a position from `at` on, where `run` is the first one that doesn't end there or before
pub from_run : (at p : ℕ) (runs : List Run) (n : ℕ) (run : Run) → at ≤ p → n ≡ prefix_len (λ run. nat_lt run.to (at + 1)) runs → n < length runs
    → run ≡ get_or runs n run → place_among p runs ≡ place_among p (run ∷ drop (suc n) runs)
from_run at p runs n run h e k is =
    passed at p runs n h e ∙ ap (place_among p) (drop-cons runs n run k ∙ ap (λ (r : Run). r ∷ drop (suc n) runs) (sym is))

pub inside : (at : ℕ) (runs : List Run) (tail : Option Run) (n : ℕ) (run : Run) (place : ℕ) → n ≡ prefix_len (λ run. nat_lt run.to (at + 1)) runs → n < length runs
    → run ≡ get_or runs n run → run.pos ≤ at → place ≡ place_in at run → IsStretch (place_by runs tail) at (record { place = Some place; to = run.to })
inside at runs tail n run place e k is h f =
    let reach : at + 1 ≤ run.to = reached run (at + 1) n runs e k is in
    record {
      onward = omega (arith, reach);
      each = λ p from to.
          let here : place_in p run ≡ place + (p - at) = omega (arith, h, from, f) in
          ap (λ o. option_or o (tail_at tail p))
          (from_run at p runs n run from e k is ∙ covered p run (drop (suc n) runs) (omega (arith, h, from)) to ∙ ap Some here);
    }

pub before : (at : ℕ) (runs : List Run) (tail : Option Run) (n : ℕ) (run : Run) (stretch : Stretch) → AreOrdered 0 runs
    → n ≡ prefix_len (λ run. nat_lt run.to (at + 1)) runs → n < length runs → run ≡ get_or runs n run → stretch.to ≤ run.pos
    → IsStretch (tail_at tail) at stretch → IsStretch (place_by runs tail) at stretch
before at runs tail n run stretch o e k is h s = record {
  onward = s.onward;
  each = λ p from to.
      let left : AreOrdered 0 (drop n runs) = ordered-drop n runs o in
      let own : AreOrdered 0 (run ∷ drop (suc n) runs) = subst (AreOrdered 0) (drop-cons runs n run k ∙ ap (λ (r : Run). r ∷ drop (suc n) runs) (sym is)) left in
      let none : place_among p (run ∷ drop (suc n) runs) ≡ None = none_below run.pos p (run ∷ drop (suc n) runs) (omega arith, own.1, own.2, own.3) (omega (arith, h, to)) in
      ap (λ o. option_or o (tail_at tail p)) (from_run at p runs n run from e k is ∙ none) ∙ s.each p from to;
}

pub behind_all : (at : ℕ) (runs : List Run) (tail : Option Run) (n : ℕ) (stretch : Stretch) → n ≡ prefix_len (λ run. nat_lt run.to (at + 1)) runs
    → length runs ≤ n → IsStretch (tail_at tail) at stretch → IsStretch (place_by runs tail) at stretch
behind_all at runs tail n stretch e h s = record {
  onward = s.onward;
  each = λ p from to. ap (λ o. option_or o (tail_at tail p)) (passed at p runs n from e ∙ ap (place_among p) (drop_all n runs h)) ∙ s.each p from to;
}

-- ---- no run could be one with the next
apart_later : (run next : Run) → run.to < next.pos → joins run next ≡ false
apart_later run next h = grind (arith, nat_tests)

apart_turned : (told run : Run) → lies_before told run ≡ true → joins run told ≡ false
apart_turned told run e = grind (arith, nat_tests)

joined_behind : (told run next : Run) → told.pos < told.to → next.pos < next.to → run.pos < run.to → run.to ≤ next.pos → lies_before told run ≡ true
    → joins run next ≡ false → joins told next ≡ true → lies_before (joined told next) run ≡ true
joined_behind told run next a b c o e f g =
    let j : Joined told next = joins_tells told next a b g in
    behind_both told run next j e f o
  where
    behind_both : (told run next : Run) → Joined told next → lies_before told run ≡ true → joins run next ≡ false → run.to ≤ next.pos → lies_before (joined told next) run ≡ true
    behind_both told run next j e f o = grind (arith, nat_tests, j.low, j.high, j.same)

-- and the first of these isn't to be one with the run before
abbrev Behind : Run → List Run → Type 0
Behind run [] = Unit {0}
Behind run (next ∷ runs) = joins run next ≡ false

behind_after : (run next : Run) (runs : List Run) → AreOrdered next.to runs → next.pos < next.to → run.to ≤ next.pos → Behind run runs
behind_after run next [] o h k = tt
behind_after run next (other ∷ runs) o h k = apart_later run other (omega (arith, o.0, h, k))

absorbed_apart : (told run : Run) (runs : List Run) → AreOrdered run.to runs → told.pos < told.to → run.pos < run.to → lies_before told run ≡ true → Behind run runs
    → joins run (absorbed told runs) ≡ false
absorbed_apart told run [] o h k e f = apart_turned told run e
absorbed_apart told run (next ∷ runs) o h k e f = by (joins told next) refl (λ g.
    absorbed_apart (joined told next) run runs (ordered-later run.to next.to runs o.3 (omega (arith, o.0, o.1))) (omega (arith, o.1)) k
    (joined_behind told run next h o.1 k o.0 e f g) (behind_after run next runs o.3 o.1 o.0))
  where
    by : (b : Bool) → joins told next ≡ b → (joins told next ≡ true → joins run (absorbed (joined told next) runs) ≡ false)
        → joins run (cond b (absorbed (joined told next) runs) told) ≡ false
    by true g rest = rest g
    by false g rest = apart_turned told run e

apart-tail : (run : Run) (runs : List Run) → AreApart (run ∷ runs) → AreApart runs
apart-tail run [] a = tt
apart-tail run (next ∷ runs) a = a.1

into-apart : (told : Run) (runs : List Run) → AreApart runs → AreApart (into told runs)
into-apart told [] a = tt
into-apart told (run ∷ runs) a = by (joins told run) refl (into-apart (joined told run) runs (apart-tail run runs a))
  where
    by : (b : Bool) → joins told run ≡ b → AreApart (into (joined told run) runs)
        → AreApart (cond b (absorbed (joined told run) runs) told ∷ drop (cond b (suc (count_joined (joined told run) runs)) 0) (run ∷ runs))
    by true e rest = rest
    by false e rest = (e, a)

put-apart : (told : Run) (at n : ℕ) (runs : List Run) → n ≡ prefix_len (lies_before told) runs → AreOrdered at runs → told.pos < told.to
    → AreApart runs → AreApart (put told n runs)
put-apart told at zero [] e o h a = tt
put-apart told at (suc n) [] e o h a = absurd (omega (arith, e))
put-apart told at n (run ∷ runs) e o h a =
    by n (lies_before told run) refl e (λ m k. put-apart told run.to m runs k o.3 h (apart-tail run runs a))
  where
    front : (m : ℕ) (runs : List Run) → run.pos < run.to → AreOrdered run.to runs → AreApart (run ∷ runs) → lies_before told run ≡ true → AreApart (put told m runs)
        → AreApart (run ∷ put told m runs)
    front zero [] s o a f rest = (apart_turned told run f, rest)
    front zero (next ∷ runs) s o a f rest = (absorbed_apart told run (next ∷ runs) o h s f a.0, rest)
    front (suc m) [] s o a f rest = (apart_turned told run f, rest)
    front (suc m) (next ∷ runs) s o a f rest = (a.0, rest)

    by : (n : ℕ) (b : Bool) → lies_before told run ≡ b → n ≡ cond b (1 + prefix_len (lies_before told) runs) 0
        → ((m : ℕ) → m ≡ prefix_len (lies_before told) runs → AreApart (put told m runs))
        → AreApart (put told n (run ∷ runs))
    by zero true f k rest = absurd (omega (arith, k))
    by (suc n) true f k rest = front n runs o.1 o.3 a f (rest n (omega (arith, k)))
    by zero false f k rest = into-apart told (run ∷ runs) a
    by (suc n) false f k rest = absurd (omega (arith, k))

pub fewest_by_put : (told : Run) (n : ℕ) (runs : List Run) → n ≡ prefix_len (lies_before told) runs → AreOrdered 0 runs → told.pos < told.to
    → AreApart runs → AreApart (put told n runs)
fewest_by_put told n runs e o h a = put-apart told 0 n runs e o h a
