-- The octets that were sent for the first time are as many as the places that were carried.
use Rattle.std.proofs.Common.{◌≡◌, refl, sym, ◌∙◌, ap, subst, ℕ, zero, suc, ◌+◌, ◌-◌, ◌*◌, ◌==◌, ◌^◌, ◌<◌, ◌≤◌, ◌⊎◌, inl, inr, ⊎_elim, Bool, true, false, cond, if◌then◌else◌, Option, Some, None, List, [], ◌∷◌, ◌++◌, take, drop, filter, length, length-append, length-take, replicate, sum_by, arith}
use Rattle.std.specs.List.{slice_get}
use Rattle.std.proofs.lemmas.Bool.{eq-eqb, eqb-false, eqb-true, ne_eqb}
use Rattle.std.proofs.lemmas.List.{length-replicate}
use Rattle.std.proofs.lemmas.List.Folds.{sum_by-replicate}
use Rattle.std.proofs.lemmas.List.Sums.{count_by-le-length, sum_by-append, sum_by-cons}
use Rattle.std.proofs.lemmas.Option.{same_Some}
use Rattle.sides.specs.declared.side.Side.{Side}
use Rattle.sides.specs.declared.side.Side.TheVariants.{A, B}
use Rattle.link_script.specs.Places.{same_side}
use Rattle.range_marks.specs.Marks.{Marks, after_mark, marks_len, no_marks}
use Rattle.link_trace.specs.declared.carried.Carried.{Carried}
use Rattle.link_trace.specs.declared.rows.Rates.{Rates}
use Rattle.link_trace.specs.FirstOctets.{EachEndsBy, EndsBy, FirstOctetsAreThePlaces, OneHasOctet}
use Rattle.link_trace.specs.Places.{carried_below, grown, repeated, with_carried, with_payload}
use Rattle.link_trace.specs.Rows.{capped, first_octets_from, fresh_behind, is_from, rows_behind}

-- ---- sums over paths

-- of so many paths, the first of which has this number
abbrev sums : ℕ → ℕ → (ℕ → ℕ) → ℕ
sums path zero f = 0
sums path (suc more) f = f path + sums (path + 1) more f

sums_none : (path more : ℕ) → sums path more (λ p. 0) ≡ 0
sums_none path zero = refl
sums_none path (suc more) = let rest = sums_none (path + 1) more in omega (arith, rest)

sums_both : (path more : ℕ) (f g : ℕ → ℕ) → sums path more (λ p. f p + g p) ≡ sums path more f + sums path more g
sums_both path zero f g = refl
sums_both path (suc more) f g = let rest = sums_both (path + 1) more f g in omega (arith, rest)

-- a path below the first one
sums_below : (at x path more : ℕ) → at < path → sums path more (λ p. if at == p then x else 0) ≡ 0
sums_below at x path zero below = refl
sums_below at x path (suc more) below =
    let rest = sums_below at x (path + 1) more (omega (arith, below)) in
    let none : (if at == path then x else 0) ≡ 0 = ap (λ (b : Bool). if b then x else 0) (ne_eqb at path (λ same. omega (arith, below, same))) in
    omega (arith, rest, none)

sums_one : (at x path more : ℕ) → path ≤ at → at < path + more → sums path more (λ p. if at == p then x else 0) ≡ x
sums_one at x path zero from to = absurd (omega (arith, from, to))
sums_one at x path (suc more) from to = by (at == path) refl (sums_one at x (path + 1) more)
  where
    by : (b : Bool) → (at == path) ≡ b → (path + 1 ≤ at → at < path + 1 + more → sums (path + 1) more (λ p. if at == p then x else 0) ≡ x)
        → (if at == path then x else 0) + sums (path + 1) more (λ p. if at == p then x else 0) ≡ x
    by true is rest =
        let here : (if at == path then x else 0) ≡ x = ap (λ (b : Bool). if b then x else 0) is in
        let same = eqb-true at path is in let none = sums_below at x (path + 1) more (omega (arith, same)) in omega (arith, here, none)
    by false is rest =
        let here : (if at == path then x else 0) ≡ 0 = ap (λ (b : Bool). if b then x else 0) is in
        let past : path + 1 ≤ at = by_apart (eqb-false at path is) in
        let later = rest past (omega (arith, to)) in omega (arith, here, later)
      where
        by_apart : (at ≡ path → ⊥) → path + 1 ≤ at
        by_apart apart = (elim (at - path) as (λ d. at - path ≡ d → path + 1 ≤ at)
            [ zero ↦ λ is. absurd (apart (omega (arith, is, from))) | suc d ↦ λ is. omega (arith, is) ]) refl

sums_capped : (f : ℕ → ℕ) (path more : ℕ) → sums path more f < 2 ^ 64 → sums path more (λ p. capped (f p)) ≡ sums path more f
sums_capped f path zero small = refl
sums_capped f path (suc more) small =
    let rest = sums_capped f (path + 1) more (omega (arith, small)) in
    let here : capped (f path) ≡ f path = omega (arith, small) in omega (arith, rest, here)

-- ---- the rows

rows_sum : (rates : List Rates) (path : ℕ) (cs : List Carried) (side : Side)
    → first_octets_from side (rows_behind path rates cs) ≡ sums path (length rates) (λ p. capped (fresh_behind p no_marks (filter (is_from side) cs)))
rows_sum [] path cs side = refl
rows_sum (r ∷ rates) path cs A = let rest = rows_sum rates (path + 1) cs A in omega (arith, rest)
rows_sum (r ∷ rates) path cs B = let rest = rows_sum rates (path + 1) cs B in omega (arith, rest)

-- ---- a direction, whichever paths its segments are on

abbrev all_fresh : Marks Bool → List Carried → ℕ
all_fresh places [] = 0
all_fresh places (c ∷ cs) = (c.len - repeated c.place c.len places) + all_fresh (with_carried c.place c.len places) cs

-- each is on one of so many paths, and has no payload or one that ends by this place
abbrev Lie : ℕ → ℕ → List Carried → Type 0
Lie paths n [] = Unit {0}
Lie paths n (c ∷ cs) = ((c.path < paths) × ((c.len ≡ 0) ⊎ EndsBy n c)) × Lie paths n cs

abbrev Some_has : ℕ → List Carried → Type 0
Some_has at [] = ⊥
Some_has at (c ∷ cs) = ((place : ℕ) × ((c.place ≡ Some place) × ((place ≤ at) × (at < place + c.len)))) ⊎ Some_has at cs

paths_sum : (paths n : ℕ) (cs : List Carried) (places : Marks Bool) → Lie paths n cs → sums 0 paths (λ p. fresh_behind p places cs) ≡ all_fresh places cs
paths_sum paths n [] places lie = sums_none 0 paths
paths_sum paths n (c ∷ cs) places lie =
    let count = c.len - repeated c.place c.len places in let next = with_carried c.place c.len places in
    sums_both 0 paths (λ p. if c.path == p then count else 0) (λ p. fresh_behind p next cs)
    ∙ (let here = sums_one c.path count 0 paths (omega arith) (omega (arith, lie.0.0)) in
    let rest = paths_sum paths n cs next lie.1 in omega (arith, here, rest))

-- ---- marks

abbrev bit : Bool → ℕ
bit b = cond b 1 0

abbrev trues : List Bool → ℕ
trues marks = sum_by bit marks

trues_replicate : (n : ℕ) (b : Bool) → trues (replicate n b) ≡ n * bit b
trues_replicate n b = sum_by-replicate bit n b

-- a part of a list has no more than the list, and no more than its length
trues_part : (lo hi : ℕ) (marks : List Bool) → lo ≤ hi → (trues (take lo marks) ≤ trues (take hi marks)) × (trues (take hi marks) ≤ trues (take lo marks) + (hi - lo))
trues_part zero hi marks le = (omega arith, most hi marks)
  where
    most : (n : ℕ) (xs : List Bool) → trues (take n xs) ≤ trues (take 0 xs) + (n - 0)
    most n xs = let few = count_by-le-length (λ (b : Bool). b) (take n xs) in omega (arith, few, length-take n xs)
trues_part (suc lo) zero marks le = absurd (omega (arith, le))
trues_part (suc lo) (suc hi) [] le = (omega arith, omega arith)
trues_part (suc lo) (suc hi) (x ∷ marks) le =
    let rest = trues_part lo hi marks (omega (arith, le)) in
    let a = sum_by-cons bit x (take lo marks) in let b = sum_by-cons bit x (take hi marks) in
    (let r = rest.0 in omega (arith, r, a, b), let r = rest.1 in omega (arith, r, a, b))

-- marks by recursion on the list: the first `lo` are passed over, then `n` are set
abbrev put : ℕ → ℕ → List Bool → List Bool
put lo n [] = []
put zero zero (x ∷ xs) = x ∷ xs
put zero (suc n) (x ∷ xs) = true ∷ put zero n xs
put (suc lo) n (x ∷ xs) = x ∷ put lo n xs

put_is : (lo hi n : ℕ) (xs : List Bool) → hi ≡ lo + n → hi ≤ length xs → take lo xs ++ (replicate n true ++ drop hi xs) ≡ put lo n xs
put_is zero zero zero [] e le = refl
put_is zero zero zero (x ∷ xs) e le = refl
put_is zero (suc hi) zero xs e le = absurd (omega (arith, e))
put_is zero zero (suc n) xs e le = absurd (omega (arith, e))
put_is zero (suc hi) (suc n) [] e le = absurd (omega (arith, le))
put_is zero (suc hi) (suc n) (x ∷ xs) e le = ap (λ (t : List Bool). true ∷ t) (put_is zero hi n xs (omega (arith, e)) (omega (arith, le)))
put_is (suc lo) zero n xs e le = absurd (omega (arith, e))
put_is (suc lo) (suc hi) n [] e le = absurd (omega (arith, le))
put_is (suc lo) (suc hi) n (x ∷ xs) e le = ap (λ (t : List Bool). x ∷ t) (put_is lo hi n xs (omega (arith, e)) (omega (arith, le)))

length_put : (lo n : ℕ) (xs : List Bool) → length (put lo n xs) ≡ length xs
length_put lo n [] = refl
length_put zero zero (x ∷ xs) = refl
length_put zero (suc n) (x ∷ xs) = ap suc (length_put zero n xs)
length_put (suc lo) n (x ∷ xs) = ap suc (length_put lo n xs)

-- what was set stays so
put_keeps : (lo n i : ℕ) (xs : List Bool) → slice_get xs i ≡ Some true → slice_get (put lo n xs) i ≡ Some true
put_keeps lo n i [] is = is
put_keeps zero zero i (x ∷ xs) is = is
put_keeps zero (suc n) zero (x ∷ xs) is = refl
put_keeps zero (suc n) (suc i) (x ∷ xs) is = put_keeps zero n i xs is
put_keeps (suc lo) n zero (x ∷ xs) is = is
put_keeps (suc lo) n (suc i) (x ∷ xs) is = put_keeps lo n i xs is

put_sets : (lo n i : ℕ) (xs : List Bool) → lo ≤ i → i < lo + n → lo + n ≤ length xs → slice_get (put lo n xs) i ≡ Some true
put_sets lo n i [] from to le = absurd (omega (arith, to, le))
put_sets zero zero i (x ∷ xs) from to le = absurd (omega (arith, to))
put_sets zero (suc n) zero (x ∷ xs) from to le = refl
put_sets zero (suc n) (suc i) (x ∷ xs) from to le = put_sets zero n i xs (omega arith) (omega (arith, to)) (omega (arith, le))
put_sets (suc lo) n zero (x ∷ xs) from to le = absurd (omega (arith, from))
put_sets (suc lo) n (suc i) (x ∷ xs) from to le = put_sets lo n i xs (omega (arith, from)) (omega (arith, to)) (omega (arith, le))

-- as many are set as weren't
trues_put : (lo n : ℕ) (xs : List Bool) → lo + n ≤ length xs → trues (put lo n xs) + trues (take (lo + n) xs) ≡ trues xs + trues (take lo xs) + n
trues_put zero zero [] le = refl
trues_put zero (suc n) [] le = absurd (omega (arith, le))
trues_put (suc lo) n [] le = absurd (omega (arith, le))
trues_put zero zero (x ∷ xs) le = omega arith
trues_put zero (suc n) (x ∷ xs) le =
    let rest = trues_put zero n xs (omega (arith, le)) in
    let set = sum_by-cons bit true (put zero n xs) in let old = sum_by-cons bit x xs in
    let same : zero + n ≡ n = omega arith in let more : zero + suc n ≡ suc n = omega arith in
    let part : trues (take (zero + suc n) (x ∷ xs)) ≡ bit x + trues (take (zero + n) xs) =
    ap (λ k. trues (take k (x ∷ xs))) more ∙ sum_by-cons bit x (take n xs) ∙ ap (λ k. bit x + trues (take k xs)) (sym same) in
    omega (arith, rest, set, old, part)
trues_put (suc lo) n (x ∷ xs) le =
    let rest = trues_put lo n xs (omega (arith, le)) in
    let now = sum_by-cons bit x (put lo n xs) in let old = sum_by-cons bit x xs in let first = sum_by-cons bit x (take lo xs) in
    let more : suc lo + n ≡ suc (lo + n) = omega arith in
    let part : trues (take (suc lo + n) (x ∷ xs)) ≡ bit x + trues (take (lo + n) xs) =
    ap (λ k. trues (take k (x ∷ xs))) more ∙ sum_by-cons bit x (take (lo + n) xs) in
    omega (arith, rest, now, old, first, part)

-- places more, none of which is carried
trues_more : (k : ℕ) (xs : List Bool) → trues (xs ++ replicate k false) ≡ trues xs
trues_more k xs = sum_by-append bit xs (replicate k false) ∙ (let none = trues_replicate k false in omega (arith, none))

trues_zeros : (e k : ℕ) → trues (take e (replicate k false)) ≡ 0
trues_zeros zero k = refl
trues_zeros (suc e) zero = refl
trues_zeros (suc e) (suc k) =
    let rest = trues_zeros e k in let sum = sum_by-cons bit false (take e (replicate k false)) in omega (arith, rest, sum)

trues_taken : (e k : ℕ) (xs : List Bool) → trues (take e (xs ++ replicate k false)) ≡ trues (take e xs)
trues_taken zero k xs = refl
trues_taken (suc e) k [] = trues_zeros (suc e) k
trues_taken (suc e) k (x ∷ xs) =
    let rest = trues_taken e k xs in
    let a = sum_by-cons bit x (take e (xs ++ replicate k false)) in let b = sum_by-cons bit x (take e xs) in omega (arith, rest, a, b)

kept_more : (i : ℕ) (xs ys : List Bool) → slice_get xs i ≡ Some true → slice_get (xs ++ ys) i ≡ Some true
kept_more i [] ys is = cc
kept_more zero (x ∷ xs) ys is = is
kept_more (suc i) (x ∷ xs) ys is = kept_more i xs ys is

-- each of so many is set, and there are no more
trues_all : (n : ℕ) (xs : List Bool) → ((i : ℕ) → i < n → slice_get xs i ≡ Some true) → length xs ≤ n → trues xs ≡ n
trues_all zero [] each le = refl
trues_all zero (x ∷ xs) each le = absurd (omega (arith, le))
trues_all (suc n) [] each le = none (each 0 (omega arith))
  where
    none : slice_get {X = Bool} [] 0 ≡ Some true → trues [] ≡ suc n
    none is = cc
trues_all (suc n) (x ∷ xs) each le =
    let first : x ≡ true = same_Some x true (each 0 (omega arith)) in
    let rest = trues_all n xs (λ i below. each (suc i) (omega (arith, below))) (omega (arith, le)) in
    let one : bit x ≡ 1 = ap bit first in let sum = sum_by-cons bit x xs in omega (arith, rest, one, sum)

-- ---- a payload more

-- at places from 0 on
record Fits (n : ℕ) (places : Marks Bool) : Type 0 where
  none : places.forgotten ≡ 0
  len : length places.marks ≤ n

record Goes (n : ℕ) (c : Carried) (places : Marks Bool) : Type 0 where
  fits : Fits n (with_carried c.place c.len places)
  sum : trues (with_carried c.place c.len places).marks ≡ trues places.marks + (c.len - repeated c.place c.len places)
  keeps : (i : ℕ) → slice_get places.marks i ≡ Some true → slice_get (with_carried c.place c.len places).marks i ≡ Some true
  sets : (place i : ℕ) → c.place ≡ Some place → place ≤ i → i < place + c.len → slice_get (with_carried c.place c.len places).marks i ≡ Some true

module _ (n place len : ℕ) (places : Marks Bool) (fits : Fits n places) (within : place + len ≤ n) where
  abbrev to : ℕ
  to = place + len

  abbrev more : ℕ
  more = to - marks_len places

  abbrev wide : List Bool
  wide = places.marks ++ replicate more false

  wide_len : to ≤ length wide
  wide_len = let none = fits.none in omega (arith, none, length-append places.marks (replicate more false), length-replicate more false)

  wide_fits : length wide ≤ n
  wide_fits = let none = fits.none in let few = fits.len in omega (arith, none, few, within, length-append places.marks (replicate more false), length-replicate more false)

  same_lo : place - places.forgotten ≡ place
  same_lo = let none = fits.none in omega (arith, none)

  same_hi : to - places.forgotten ≡ to
  same_hi = let none = fits.none in omega (arith, none)

  -- what is marked
  marked_is : (after_mark place to true (grown to places)).marks ≡ put place len wide
  marked_is =
      let count : to - places.forgotten - (place - places.forgotten) ≡ len = omega (arith, same_lo, same_hi) in
      ap (λ k. take k wide ++ (replicate (to - places.forgotten - (place - places.forgotten)) true ++ drop (to - places.forgotten) wide)) same_lo
      ∙ ap (λ k. take place wide ++ (replicate k true ++ drop (to - places.forgotten) wide)) count
      ∙ ap (λ k. take place wide ++ (replicate len true ++ drop k wide)) same_hi ∙ put_is place to len wide refl wide_len

  below_is : (e : ℕ) → carried_below e places ≡ trues (take e wide)
  below_is e =
      let same : e - places.forgotten ≡ e = let none = fits.none in omega (arith, none) in
      ap (λ k. trues (take k places.marks)) same ∙ sym (trues_taken e more places.marks)

  marked_sum : trues (put place len wide) ≡ trues places.marks + (len - (carried_below to places - carried_below place places))
  marked_sum =
      let sum = trues_put place len wide wide_len in let same = trues_more more places.marks in
      let high = below_is to in let low = below_is place in
      let part = trues_part place to wide (omega arith) in let rises = part.0 in let most = part.1 in
      omega (arith, sum, same, high, low, rises, most)

-- of a payload with octets, by what it leaves
payload_is : (place len : ℕ) (places : Marks Bool) → (len ≡ 0 → ⊥) → with_payload place len places ≡ after_mark place (place + len) true (grown (place + len) places)
payload_is place len places some = ap (λ (b : Bool). if b then places else after_mark place (place + len) true (grown (place + len) places)) (ne_eqb len 0 some)

empty_is : (o : Option ℕ) (len : ℕ) (places : Marks Bool) → len ≡ 0 → with_carried o len places ≡ places
empty_is None len places none = refl
empty_is (Some place) len places none = ap (λ (b : Bool). if b then places else after_mark place (place + len) true (grown (place + len) places)) (eq-eqb len 0 none)

empty_goes : (n : ℕ) (c : Carried) (places : Marks Bool) → Fits n places → c.len ≡ 0 → Goes n c places
empty_goes n c places fits none = record {
  fits = subst (Fits n) (sym is) fits;
  sum = ap (λ v. trues v.marks) is ∙ (let count : c.len - repeated c.place c.len places ≡ 0 = omega (arith, none) in omega (arith, count));
  keeps = λ i at. subst (λ v. slice_get v.marks i ≡ Some true) (sym is) at;
  sets = λ place i told from to. absurd (omega (arith, none, from, to));
}
  where
    is : with_carried c.place c.len places ≡ places
    is = empty_is c.place c.len places none

goes : (n : ℕ) (c : Carried) (places : Marks Bool) → Fits n places → (c.len ≡ 0) ⊎ EndsBy n c → Goes n c places
goes n c places fits (inl none) = empty_goes n c places fits none
goes n c places fits (inr ends) = by c.len refl
  where
    place : ℕ
    place = ends.place

    by : (k : ℕ) → c.len ≡ k → Goes n c places
    by zero is = empty_goes n c places fits is
    by (suc k) is = record {
      fits = record {
        none = ap (λ v. v.forgotten) left ∙ fits.none;
        len = let same = ap (λ v. length v.marks) left ∙ ap length marked ∙ length_put place c.len (wide n place c.len places fits ends.within) in
            let few = wide_fits n place c.len places fits ends.within in omega (arith, same, few);
      };
      sum = ap (λ v. trues v.marks) left ∙ ap trues marked ∙ marked_sum n place c.len places fits ends.within
          ∙ ap (λ o. trues places.marks + (c.len - repeated o c.len places)) (sym ends.told);
      keeps = λ i at. subst (λ v. slice_get v.marks i ≡ Some true) (sym left)
          (subst (λ marks. slice_get marks i ≡ Some true) (sym marked)
          (put_keeps place c.len i (wide n place c.len places fits ends.within)
          (kept_more i places.marks (replicate (more n place c.len places fits ends.within) false) at)));
      sets = λ at i told from to.
          let same : at ≡ place = same_Some at place (sym told ∙ ends.told) in
          subst (λ v. slice_get v.marks i ≡ Some true) (sym left)
          (subst (λ marks. slice_get marks i ≡ Some true) (sym marked)
          (put_sets place c.len i (wide n place c.len places fits ends.within) (omega (arith, from, same)) (omega (arith, to, same))
          (wide_len n place c.len places fits ends.within)));
    }
      where
        left : with_carried c.place c.len places ≡ after_mark place (place + c.len) true (grown (place + c.len) places)
        left = ap (λ o. with_carried o c.len places) ends.told ∙ payload_is place c.len places (λ none. omega (arith, is, none))

        marked : (after_mark place (place + c.len) true (grown (place + c.len) places)).marks ≡ put place c.len (wide n place c.len places fits ends.within)
        marked = marked_is n place c.len places fits ends.within

-- ---- a whole direction

abbrev left_by : Marks Bool → List Carried → Marks Bool
left_by places [] = places
left_by places (c ∷ cs) = left_by (with_carried c.place c.len places) cs

record Direction_goes (n : ℕ) (cs : List Carried) (places : Marks Bool) : Type 0 where
  fits : Fits n (left_by places cs)
  sum : trues (left_by places cs).marks ≡ trues places.marks + all_fresh places cs
  keeps : (i : ℕ) → slice_get places.marks i ≡ Some true → slice_get (left_by places cs).marks i ≡ Some true
  sets : (at : ℕ) → Some_has at cs → slice_get (left_by places cs).marks at ≡ Some true

direction_goes : (paths n : ℕ) (cs : List Carried) (places : Marks Bool) → Fits n places → Lie paths n cs → Direction_goes n cs places
direction_goes paths n [] places fits lie = record { fits = fits; sum = omega arith; keeps = λ i at. at; sets = λ at has. absurd has }
direction_goes paths n (c ∷ cs) places fits lie =
    let first = goes n c places fits lie.0.1 in
    let rest = direction_goes paths n cs (with_carried c.place c.len places) first.fits lie.1 in
    record {
      fits = rest.fits;
      sum = let a = first.sum in let b = rest.sum in omega (arith, a, b);
      keeps = λ i at. rest.keeps i (first.keeps i at);
      sets = λ at has. ⊎_elim (λ here. rest.keeps at (first.sets here.0 at here.1.0 here.1.1.0 here.1.1.1)) (λ later. rest.sets at later) has;
    }

-- ---- the direction of a side

same_side_is : (s t : Side) → same_side s t ≡ true → s ≡ t
same_side_is A A is = refl
same_side_is B B is = refl
same_side_is A B is = cc
same_side_is B A is = cc

side_same : (s t : Side) → s ≡ t → same_side s t ≡ true
side_same A A is = refl
side_same B B is = refl
side_same A B is = cc
side_same B A is = cc

direction_lies : (paths n : ℕ) (side : Side) (cs : List Carried) → EachEndsBy paths n side cs → Lie paths n (filter (is_from side) cs)
direction_lies paths n side [] each = tt
direction_lies paths n side (c ∷ cs) each =
    (elim (is_from side c) as (λ b. is_from side c ≡ b → Lie paths n (filter (is_from side) cs) → Lie paths n (if b then c ∷ filter (is_from side) cs else filter (is_from side) cs))
    [ true ↦ λ is rest. (each.0 (same_side_is c.from side is), rest) | false ↦ λ is rest. rest ]) refl (direction_lies paths n side cs each.1)

direction_has : (side : Side) (at : ℕ) (cs : List Carried) → OneHasOctet side at cs → Some_has at (filter (is_from side) cs)
direction_has side at [] has = absurd has
direction_has side at (c ∷ cs) (inl here) =
    subst (λ (b : Bool). Some_has at (if b then c ∷ filter (is_from side) cs else filter (is_from side) cs)) (sym (side_same c.from side here.from))
    (inl (here.place, (here.told, (here.below, here.above))))
direction_has side at (c ∷ cs) (inr later) =
    (elim (is_from side c) as (λ b. Some_has at (filter (is_from side) cs) → Some_has at (if b then c ∷ filter (is_from side) cs else filter (is_from side) cs))
    [ true ↦ λ rest. inr rest | false ↦ λ rest. rest ]) (direction_has side at cs later)

pub first_octets : FirstOctetsAreThePlaces
first_octets rates cs side n small each all =
    let dir = filter (is_from side) cs in
    let lie = direction_lies (length rates) n side cs each in
    let whole = direction_goes (length rates) n dir no_marks (record { none = refl; len = omega arith }) lie in
    let full : trues (left_by no_marks dir).marks ≡ n =
    trues_all n (left_by no_marks dir).marks (λ at below. whole.sets at (direction_has side at cs (all at below))) whole.fits.len in
    let sum = whole.sum in let paths = paths_sum (length rates) n dir no_marks lie in
    rows_sum rates 0 cs side
    ∙ sums_capped (λ p. fresh_behind p no_marks dir) 0 (length rates) (omega (arith, small, full, sum, paths))
    ∙ omega (arith, full, sum, paths)
