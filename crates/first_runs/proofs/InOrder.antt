-- Runs in order: what is told of a place, and what a run does that is put in.
use Rattle.std.proofs.Common.{◌≡◌, ◌≢◌, ℕ, zero, suc, ◌+◌, ◌-◌, ◌<◌, ◌≤◌, true, false, max, min, nat_le, nat_lt, ◌&&◌, Option, Some, None, List, [], ◌∷◌, length, get_or, refl, sym, ap, ◌∙◌, subst, ⊎_elim, arith}
use Rattle.std.specs.Option.{option_or}
use Rattle.std.specs.List.{prefix_len, insert}
use Rattle.std.specs.List.Sorted.{IsNonDecreasingBy}
use Rattle.std.proofs.lemmas.Bool.Decides.{nat_tests}
use Rattle.std.proofs.lemmas.Bool.{cases_lt}
use Rattle.first_runs.specs.declared.run.Run.{Run}
use Rattle.first_runs.specs.Runs.{Told, has, image_in, told_by, told_at, Fits, cut_to, AreInOrder, IsFirstBehind, IsGap}

-- ---- tests
le_true : (a b : ℕ) → a ≤ b → nat_le a b ≡ true
le_true a b h = grind (arith, nat_tests)

le_false : (a b : ℕ) → b < a → nat_le a b ≡ false
le_false a b h = grind (arith, nat_tests)

within : (from p to : ℕ) → from ≤ p → p < to → (nat_le from p && nat_lt p to) ≡ true
within from p to h k = grind (arith, nat_tests)

below : (from p to : ℕ) → p < from → (nat_le from p && nat_lt p to) ≡ false
below from p to h = grind (arith, nat_tests)

behind : (from p to : ℕ) → to ≤ p → (nat_le from p && nat_lt p to) ≡ false
behind from p to h = grind (arith, nat_tests)

-- ---- of two the first that is there
or_none : (a : Option Told) → option_or a None ≡ a
or_none None = refl
or_none (Some t) = refl

or_told : (a b : Option Told) → a ≢ None → option_or a b ≡ a
or_told None b some = absurd (some refl)
or_told (Some t) b some = refl

or_or : (a b c : Option Told) → option_or a (option_or b c) ≡ option_or (option_or a b) c
or_or None b c = refl
or_or (Some t) b c = refl

or_swap : (a b : Option Told) → (a ≢ None → b ≡ None) → option_or a b ≡ option_or b a
or_swap None None free = refl
or_swap None (Some u) free = refl
or_swap (Some t) b free = rw (free (λ same. cc)) refl

second_none : (a b : Option Told) → option_or a b ≡ None → b ≡ None
second_none None b e = e
second_none (Some t) b e = absurd cc

-- ---- what one run tells
pub tells : (run : Run) (p : ℕ) → run.from ≤ p → p < run.to → told_by run p ≡ Some (image_in run p)
tells run p h k = rw (within run.from p run.to h k) refl

silent_below : (run : Run) (p : ℕ) → p < run.from → told_by run p ≡ None
silent_below run p h = rw (below run.from p run.to h) refl

silent_behind : (run : Run) (p : ℕ) → run.to ≤ p → told_by run p ≡ None
silent_behind run p h = rw (behind run.from p run.to h) refl

-- what tells anything of a place has it
had : (run : Run) (p : ℕ) → told_by run p ≢ None → (run.from ≤ p) × (p < run.to)
had run p some = ⊎_elim
    (λ a. absurd (some (silent_below run p a)))
    (λ a. ⊎_elim (λ b. (a, b)) (λ b. absurd (some (silent_behind run p b))) (cases_lt p run.to))
    (cases_lt p run.from)

told_some : (runs : List Run) (run : Run) (p : ℕ) → told_at runs p ≡ told_by run p → run.from ≤ p → p < run.to → told_at runs p ≢ None
told_some runs run p same h k none = let e : Some (image_in run p) ≡ None = sym (tells run p h k) ∙ sym same ∙ none in absurd cc

-- ---- the order of runs
past : (from j : ℕ) (runs : List Run) (d : Run) → AreInOrder from runs → j < length runs → from < (get_or runs j d).to
past from j [] d o h = absurd (omega (arith, h))
past from zero (run ∷ runs) d o h = omega (arith, o.0, o.1)
past from (suc j) (run ∷ runs) d o h = omega (arith, o.0, o.1, past run.to j runs d o.3 (omega (arith, h)))

ends_rise : (from i j : ℕ) (runs : List Run) (d : Run) → AreInOrder from runs → i < j → j < length runs → (get_or runs i d).to < (get_or runs j d).to
ends_rise from i j [] d o h k = absurd (omega (arith, k))
ends_rise from i zero (run ∷ runs) d o h k = absurd (omega (arith, h))
ends_rise from zero (suc j) (run ∷ runs) d o h k = past run.to j runs d o.3 (omega (arith, k))
ends_rise from (suc i) (suc j) (run ∷ runs) d o h k = ends_rise run.to i j runs d o.3 (omega (arith, h)) (omega (arith, k))

pub ends_never_fall : (from : ℕ) (runs : List Run) → AreInOrder from runs → IsNonDecreasingBy (λ run. run.to) runs
ends_never_fall from runs o i j d h k = ⊎_elim
    (λ less. let rise : (get_or runs i d).to < (get_or runs j d).to = ends_rise from i j runs d o less k in omega (arith, rise))
    (λ (more : j ≤ i). let same : i ≡ j = omega (arith, h, more) in rw same (omega arith))
    (cases_lt i j)

none_below : (from p : ℕ) (runs : List Run) → AreInOrder from runs → p < from → told_at runs p ≡ None
none_below from p [] o h = refl
none_below from p (run ∷ runs) o h =
    rw (silent_below run p (omega (arith, o.0, h))) (none_below run.to p runs o.3 (omega (arith, o.0, o.1, h)))

-- ---- the first run that ends behind a place

pub first_behind_is : (from place i : ℕ) (runs : List Run) (run : Run) → AreInOrder from runs → i ≡ prefix_len (λ r. nat_le r.to place) runs
    → i < length runs → run ≡ get_or runs i run → IsFirstBehind runs place run
first_behind_is from place i [] run o e k is = absurd (omega (arith, k))
first_behind_is from place i (first ∷ runs) run o e k is = ⊎_elim
    (λ a. let here : i ≡ 0 = rw (le_false first.to place a) at e in
    let same : run ≡ first = is ∙ ap (λ n. get_or (first ∷ runs) n run) here in
    subst (λ (r : Run). IsFirstBehind (first ∷ runs) place r) (sym same) (record {
      behind = a;
      some = o.1;
      fits = o.2;
      alone = λ p h m. rw (none_below first.to p runs o.3 m) (or_none (told_by first p));
    }))
    (λ a. let next : i ≡ 1 + prefix_len (λ r. nat_le r.to place) runs = rw (le_true first.to place a) at e in
    let same : i ≡ suc (i - 1) = omega (arith, next) in
    let rest = first_behind_is first.to place (i - 1) runs run o.3 (omega (arith, next)) (omega (arith, next, k)) (is ∙ ap (λ n. get_or (first ∷ runs) n run) same) in
    record {
      behind = rest.behind;
      some = rest.some;
      fits = rest.fits;
      alone = λ p h m. rw (silent_behind first p (omega (arith, a, h))) (rest.alone p h m);
    })
    (cases_lt place first.to)

pub none_behind : (place i : ℕ) (runs : List Run) → i ≡ prefix_len (λ r. nat_le r.to place) runs → length runs ≤ i
    → (p : ℕ) → place ≤ p → told_at runs p ≡ None
none_behind place i [] e k p h = refl
none_behind place i (first ∷ runs) e k p h = ⊎_elim
    (λ a. let here : i ≡ 0 = rw (le_false first.to place a) at e in absurd (omega (arith, here, k)))
    (λ a. let next : i ≡ 1 + prefix_len (λ r. nat_le r.to place) runs = rw (le_true first.to place a) at e in
    rw (silent_behind first p (omega (arith, a, h))) (none_behind place (i - 1) runs (omega (arith, next)) (omega (arith, next, k)) p h))
    (cases_lt place first.to)

pub here_none : (runs : List Run) (place : ℕ) (run : Run) → IsFirstBehind runs place run → place < run.from → told_at runs place ≡ None
here_none runs place run first h = first.alone place (omega arith) first.behind ∙ silent_below run place h

-- ---- gaps
pub told_further : (runs : List Run) (from begin : ℕ) (run : Run) → IsFirstBehind runs begin run → run.from ≤ begin
    → ((p : ℕ) → from ≤ p → p < begin → told_at runs p ≢ None) → (p : ℕ) → from ≤ p → p < run.to → told_at runs p ≢ None
told_further runs from begin run first begun before p h k = ⊎_elim
    (λ a. before p h a)
    (λ a. told_some runs run p (first.alone p a k) (omega (arith, begun, a)) k)
    (cases_lt p begin)

pub gap_before : (runs : List Run) (from to begin end : ℕ) (run : Run) → IsFirstBehind runs begin run → begin < run.from → from ≤ begin → begin < to
    → end ≡ min run.from to → ((p : ℕ) → from ≤ p → p < begin → told_at runs p ≢ None) → IsGap runs from to begin end
gap_before runs from to begin end run first later begun some is before = record {
  begun = begun;
  some = omega (arith, later, some, is);
  within = omega (arith, is);
  before = before;
  free = λ p h k. first.alone p h (omega (arith, k, is, first.some)) ∙ silent_below run p (omega (arith, k, is));
  most = λ h. let same : end ≡ run.from = omega (arith, is, h) in
      rw same (told_some runs run run.from (first.alone run.from (omega (arith, later)) first.some) (omega arith) first.some);
}

pub gap_last : (runs : List Run) (from to begin : ℕ) → ((p : ℕ) → begin ≤ p → told_at runs p ≡ None) → from ≤ begin → begin < to
    → ((p : ℕ) → from ≤ p → p < begin → told_at runs p ≢ None) → IsGap runs from to begin to
gap_last runs from to begin none begun some before = record {
  begun = begun;
  some = some;
  within = omega arith;
  before = before;
  free = λ p h k. none p h;
  most = λ h. absurd (omega (arith, h));
}

-- ---- a run is put in where nothing is told of its places
clear_before : (run first : Run) (runs : List Run) → run.from < first.to → run.from < run.to → first.from < first.to
    → ((p : ℕ) → run.from ≤ p → p < run.to → told_at (first ∷ runs) p ≡ None) → run.to ≤ first.from
clear_before run first runs a some has free = ⊎_elim
    (λ late. let p = max first.from run.from in
    let e : Some (image_in first p) ≡ None =
    ap (λ o. option_or o (told_at runs p)) (sym (tells first p (omega arith) (omega (arith, a, has)))) ∙ free p (omega arith) (omega (arith, late, some)) in
    absurd cc)
    (λ early. early)
    (cases_lt first.from run.to)

pub in_order-insert : (from i : ℕ) (runs : List Run) (run : Run) → AreInOrder from runs → i ≡ prefix_len (λ r. nat_le r.to run.from) runs
    → from ≤ run.from → run.from < run.to → Fits run → ((p : ℕ) → run.from ≤ p → p < run.to → told_at runs p ≡ None)
    → AreInOrder from (insert runs i run)
in_order-insert from zero [] run o e begun some fits free = (begun, some, fits, tt)
in_order-insert from (suc i) [] run o e begun some fits free = absurd (omega (arith, e))
in_order-insert from i (first ∷ runs) run o e begun some fits free = ⊎_elim
    (λ a. let here : i ≡ 0 = rw (le_false first.to run.from a) at e in
    rw here (begun, some, fits, (clear_before run first runs a some o.1 free, o.1, o.2, o.3)))
    (λ a. let next : i ≡ 1 + prefix_len (λ r. nat_le r.to run.from) runs = rw (le_true first.to run.from a) at e in
    let same : i ≡ suc (i - 1) = omega (arith, next) in
    subst (λ (n : ℕ). AreInOrder from (insert (first ∷ runs) n run)) (sym same) (
      o.0,
      o.1,
      o.2,
      in_order-insert first.to (i - 1) runs run o.3 (omega (arith, next)) a some fits
          (λ p h k. second_none (told_by first p) (told_at runs p) (free p h k)),
    ))
    (cases_lt run.from first.to)

told_at-insert : (i p : ℕ) (runs : List Run) (run : Run) → i ≤ length runs → (told_by run p ≢ None → told_at runs p ≡ None)
    → told_at (insert runs i run) p ≡ option_or (told_at runs p) (told_by run p)
told_at-insert zero p runs run le free = or_swap (told_by run p) (told_at runs p) free
told_at-insert (suc i) p [] run le free = absurd (omega (arith, le))
told_at-insert (suc i) p (first ∷ runs) run le free =
    ap (λ o. option_or (told_by first p) o) (told_at-insert i p runs run (omega (arith, le)) (λ some. second_none (told_by first p) (told_at runs p) (free some)))
    ∙ or_or (told_by first p) (told_at runs p) (told_by run p)

pub told_with : (i : ℕ) (runs : List Run) (run : Run) → i ≤ length runs → ((p : ℕ) → run.from ≤ p → p < run.to → told_at runs p ≡ None)
    → (p : ℕ) → told_at (insert runs i run) p ≡ option_or (told_at runs p) (told_by run p)
told_with i runs run le free p = told_at-insert i p runs run le (λ some. let h = had run p some in free p h.0 h.1)

-- ---- a run fills the gaps among its places
same_image : (from p : ℕ) (run : Run) → run.from ≤ from → from ≤ p → image_in (cut_to from p run) p ≡ image_in run p
same_image from p run h k = ap (λ (n : ℕ). record { image = n; teller = run.teller }) (omega (arith, h, k))

cut_tells : (from to p : ℕ) (run : Run) → run.from ≤ from → from ≤ p → p < to → p < run.to → told_by (cut_to from to run) p ≡ Some (image_in run p)
cut_tells from to p run h k m n =
    tells (cut_to from to run) p k (omega (arith, m, n)) ∙ ap Some (ap (λ (n : ℕ). record { image = n; teller = run.teller }) (omega (arith, h, k)))

pub gap_filled : (runs : List Run) (run : Run) (place begin end p : ℕ) (new : Option Told) → run.from ≤ place → IsGap runs place run.to begin end
    → new ≡ option_or (told_at runs p) (told_by (cut_to begin end run) p)
    → new ≡ option_or (told_at runs p) (told_by (cut_to place end run) p)
gap_filled runs run place begin end p new begun gap is = is ∙ ⊎_elim
    (λ a. rw (silent_below (cut_to begin end run) p (omega (arith, a, gap.begun)), silent_below (cut_to place end run) p a) refl)
    (λ a. ⊎_elim
    (λ b. or_told (told_at runs p) (told_by (cut_to begin end run) p) (gap.before p a b) ∙ sym (or_told (told_at runs p) (told_by (cut_to place end run) p) (gap.before p a b)))
    (λ b. ⊎_elim
    (λ c. ap (option_or (told_at runs p)) (cut_tells begin end p run (omega (arith, begun, gap.begun)) b c (omega (arith, c, gap.within)) ∙ sym (cut_tells place end p run begun a c (omega (arith, c, gap.within)))))
    (λ c. rw (silent_behind (cut_to begin end run) p (omega (arith, c)), silent_behind (cut_to place end run) p (omega (arith, c))) refl)
    (cases_lt p end))
    (cases_lt p begin))
    (cases_lt p place)

pub no_gap : (runs : List Run) (run : Run) (place p : ℕ) → ((p : ℕ) → place ≤ p → p < run.to → told_at runs p ≢ None)
    → told_at runs p ≡ option_or (told_at runs p) (told_by (cut_to place run.to run) p)
no_gap runs run place p all = ⊎_elim
    (λ a. rw (silent_below (cut_to place run.to run) p a) (sym (or_none (told_at runs p))))
    (λ a. ⊎_elim
    (λ b. sym (or_told (told_at runs p) (told_by (cut_to place run.to run) p) (all p a b)))
    (λ b. rw (silent_behind (cut_to place run.to run) p (omega (arith, b))) (sym (or_none (told_at runs p))))
    (cases_lt p run.to))
    (cases_lt p place)

both : (run : Run) (place end p : ℕ) → run.from ≤ place → place ≤ end → end ≤ run.to
    → option_or (told_by (cut_to run.from place run) p) (told_by (cut_to place end run) p) ≡ told_by (cut_to run.from end run) p
both run place end p h k m = ⊎_elim
    (λ a. rw (silent_below (cut_to run.from place run) p a, silent_below (cut_to place end run) p (omega (arith, a, h)), silent_below (cut_to run.from end run) p a) refl)
    (λ a. ⊎_elim
    (λ b. rw (cut_tells run.from place p run (omega arith) a b (omega (arith, b, k, m)), cut_tells run.from end p run (omega arith) a (omega (arith, b, k)) (omega (arith, b, k, m))) refl)
    (λ b. rw (silent_behind (cut_to run.from place run) p (omega (arith, b))) (⊎_elim
    (λ c. cut_tells place end p run h b c (omega (arith, c, m)) ∙ sym (cut_tells run.from end p run (omega arith) a c (omega (arith, c, m))))
    (λ c. rw (silent_behind (cut_to place end run) p (omega (arith, c)), silent_behind (cut_to run.from end run) p (omega (arith, c))) refl)
    (cases_lt p end)))
    (cases_lt p place))
    (cases_lt p run.from)

pub filled_on : (run : Run) (place end p : ℕ) (first so_far now : Option Told) → run.from ≤ place → place ≤ end → end ≤ run.to
    → so_far ≡ option_or first (told_by (cut_to run.from place run) p) → now ≡ option_or so_far (told_by (cut_to place end run) p)
    → now ≡ option_or first (told_by (cut_to run.from end run) p)
filled_on run place end p first so_far now h k m before is =
    is ∙ ap (λ o. option_or o (told_by (cut_to place end run) p)) before
    ∙ sym (or_or first (told_by (cut_to run.from place run) p) (told_by (cut_to place end run) p))
    ∙ ap (option_or first) (both run place end p h k m)

pub nothing_filled : (run : Run) (p : ℕ) (first : Option Told) → first ≡ option_or first (told_by (cut_to run.from run.from run) p)
nothing_filled run p first = ⊎_elim
    (λ a. rw (silent_below (cut_to run.from run.from run) p a) (sym (or_none first)))
    (λ a. rw (silent_behind (cut_to run.from run.from run) p (omega (arith, a))) (sym (or_none first)))
    (cases_lt p run.from)

pub all_filled : (run : Run) (place p : ℕ) (first now : Option Told) → run.to ≤ place
    → now ≡ option_or first (told_by (cut_to run.from place run) p) → now ≡ option_or first (told_by run p)
all_filled run place p first now h is = is ∙ ap (option_or first) (⊎_elim
    (λ a. rw (silent_below (cut_to run.from place run) p a, silent_below run p a) refl)
    (λ a. ⊎_elim
    (λ b. cut_tells run.from place p run (omega arith) a (omega (arith, b, h)) b ∙ sym (tells run p a b))
    (λ b. rw (silent_behind (cut_to run.from place run) p (omega (arith, b)), silent_behind run p b) refl)
    (cases_lt p run.to))
    (cases_lt p run.from))
