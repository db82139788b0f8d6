-- The first place that has another octet, piece by piece.
use Rattle.std.proofs.Common.{◌≡◌, ◌≢◌, refl, ap, ◌∙◌, sym, ℕ, zero, suc, ◌+◌, ◌-◌, ◌<◌, ◌≤◌, Bool, true, false, ◌==◌, if◌then◌else◌, Option, Some, None, option_map, List, [], ◌∷◌, length, drop, take, get_or, arith, length-drop, ◌⊎◌, inl, inr}
use Rattle.std.specs.Option.{option_or}
use Rattle.std.proofs.lemmas.Bool.{cases_lt, eq-eqb, eqb-true}
use Rattle.std.proofs.lemmas.List.{get_or-drop}
use Rattle.seen_octets.specs.declared.octet.Octet.{Octet}
use Rattle.seen_octets.specs.declared.octet.OtherOctet.{OtherOctet}
use Rattle.seen_octets.specs.Octets.{AreAlike, IsFirstDifference, IsPiece}
use Rattle.seen_octets.specs.Others.{other_by, first_other}

-- the first other octet is that behind a count of places, none of which has one
skip : (known : ℕ → Option Octet) (place n next : ℕ) (part : List ℕ) → n ≤ length part → next ≡ place + n
    → ((i : ℕ) → i < n → other_by (known (place + i)) (place + i) (get_or part i 0) ≡ None)
    → first_other known place part ≡ first_other known next (drop n part)
skip known place zero next part few e none = ap (λ (x : ℕ). first_other known x part) (let a : place ≡ next = omega (arith, e) in a)
skip known place (suc n) next [] few e none = absurd (omega (arith, few))
skip known place (suc n) next (octet ∷ part) few e none =
    let here : place + 0 ≡ place = omega arith in
    let head : other_by (known place) place octet ≡ None = sym (ap (λ (x : ℕ). other_by (known x) x octet) here) ∙ none 0 (omega arith) in
    ap (λ (o : Option OtherOctet). option_or o (first_other known (place + 1) part)) head
    ∙ skip known (place + 1) n next part (omega (arith, few)) (omega (arith, e))
    (λ i h. let same : place + 1 + i ≡ place + suc i = omega arith in
    ap (λ (x : ℕ). other_by (known x) x (get_or part i 0)) same ∙ none (suc i) (omega (arith, h)))

-- the first one is found
found : (known : ℕ → Option Octet) (place : ℕ) (part : List ℕ) → 0 < length part → other_by (known place) place (get_or part 0 0) ≢ None
    → first_other known place part ≡ other_by (known place) place (get_or part 0 0)
found known place [] some other = absurd (omega (arith, some))
found known place (octet ∷ part) some other = by (other_by (known place) place octet) other
  where
    by : (o : Option OtherOctet) → o ≢ None → option_or o (first_other known (place + 1) part) ≡ o
    by None h = absurd (h refl)
    by (Some o) h = refl

-- ---- beside a piece
alike : (o : Option Octet) (place octet : ℕ) → option_map (λ o. o.octet) o ≡ Some octet → other_by o place octet ≡ None
alike None place octet e = refl
alike (Some was) place octet e =
    let same : was.octet ≡ octet = cc in
    ap (λ b. if◌then◌else◌ {A = Option OtherOctet} b None (Some (record { place = place; was = was.octet; teller = was.teller; is = octet })))
    (eq-eqb was.octet octet same)

other_some : (o : Option Octet) (place was octet : ℕ) → option_map (λ o. o.octet) o ≡ Some was → was ≢ octet → other_by o place octet ≢ None
other_some None place was octet e differs = absurd cc
other_some (Some told) place was octet e differs = by (told.octet == octet) refl (record { place = place; was = told.octet; teller = told.teller; is = octet })
  where
    by : (b : Bool) → (told.octet == octet) ≡ b → (other : OtherOctet) → (if b then None else Some other) ≢ None
    by true f other none = absurd (differs (let same : told.octet ≡ octet = eqb-true told.octet octet f in let told_is : told.octet ≡ was = cc in sym told_is ∙ same))
    by false f other none = cc

-- all of a piece are the same, and none behind it is held up to another place
pub passes : (known : ℕ → Option Octet) (place next : ℕ) (piece part : List ℕ) → IsPiece known place piece → length piece ≤ length part
    → AreAlike piece part (length piece) → place + length piece ≤ next → next ≤ place + length part
    → ((p : ℕ) → place + length piece ≤ p → p < next → known p ≡ None)
    → first_other known place part ≡ first_other known next (drop (next - place) part)
passes known place next piece part is few same lo hi free =
    skip known place (next - place) next part (omega (arith, hi)) (omega (arith, lo))
    (λ i h. by i h (cases_lt i (length piece)))
  where
    by : (i : ℕ) → i < next - place → (i < length piece) ⊎ (length piece ≤ i) → other_by (known (place + i)) (place + i) (get_or part i 0) ≡ None
    by i h (inl a) = alike (known (place + i)) (place + i) (get_or part i 0) (is i a ∙ ap Some (same i a))
    by i h (inr a) = ap (λ (o : Option Octet). other_by o (place + i) (get_or part i 0)) (free (place + i) (omega (arith, a)) (omega (arith, h)))

-- one of a piece differs
pub differs_at : (known : ℕ → Option Octet) (place index : ℕ) (piece part : List ℕ) → IsPiece known place piece → length piece ≤ length part
    → IsFirstDifference piece part index
    → first_other known place part ≡ other_by (known (place + index)) (place + index) (get_or part index 0)
differs_at known place index piece part is few at =
    let some : index < length part = omega (arith, at.within, few) in
    let here : get_or (drop index part) 0 0 ≡ get_or part index 0 =
    get_or-drop index part 0 0 ∙ ap (λ (n : ℕ). get_or part n 0) (let e : index + 0 ≡ index = omega arith in e) in
    let long : 0 < length (drop index part) = rw (length-drop index part) (omega (arith, some)) in
    let other : other_by (known (place + index)) (place + index) (get_or (drop index part) 0 0) ≢ None =
    λ none. other_some (known (place + index)) (place + index) (get_or piece index 0) (get_or (drop index part) 0 0) (is index at.within)
    (λ same. at.differs (same ∙ here)) none in
    skip known place index (place + index) part (omega (arith, some)) refl
    (λ i h. alike (known (place + i)) (place + i) (get_or part i 0) (is i (omega (arith, h, at.within)) ∙ ap Some (at.before i h)))
    ∙ found known (place + index) (drop index part) long other
    ∙ ap (other_by (known (place + index)) (place + index)) here

-- nothing is left
drop_all : (n : ℕ) (part : List ℕ) → length part ≤ n → drop n part ≡ []
drop_all zero [] h = refl
drop_all (suc n) [] h = refl
drop_all zero (octet ∷ part) h = absurd (omega (arith, h))
drop_all (suc n) (octet ∷ part) h = drop_all n part (omega (arith, h))

pub none_left : (known : ℕ → Option Octet) (place n : ℕ) (part : List ℕ) → length part ≤ n → first_other known place (drop n part) ≡ None
none_left known place n part h = ap (first_other known place) (drop_all n part h)

-- ---- in a part, from one of its places on
take_whole : (xs : List ℕ) (n : ℕ) → length xs ≤ n → take n xs ≡ xs
take_whole [] zero h = refl
take_whole [] (suc n) h = refl
take_whole (x ∷ xs) zero h = absurd (omega (arith, h))
take_whole (x ∷ xs) (suc n) h = ap (λ (rest : List ℕ). x ∷ rest) (take_whole xs n (omega (arith, h)))

pub take_rest : (part : List ℕ) (n : ℕ) → take (length part - n) (drop n part) ≡ drop n part
take_rest part n = take_whole (drop n part) (length part - n) (rw (length-drop n part) (omega arith))

drop_drop : (m n all : ℕ) (xs : List ℕ) → all ≡ n + m → drop m (drop n xs) ≡ drop all xs
drop_drop m zero all xs e = ap (λ (x : ℕ). drop x xs) (let same : m ≡ all = omega (arith, e) in same)
drop_drop zero (suc n) all [] e = sym (drop_all all [] (omega arith))
drop_drop (suc m) (suc n) all [] e = sym (drop_all all [] (omega arith))
drop_drop m (suc n) all (x ∷ xs) e =
    drop_drop m n (n + m) xs refl ∙ ap (λ (y : ℕ). drop y (x ∷ xs)) (let same : suc (n + m) ≡ all = omega (arith, e) in same)

module _ (known : ℕ → Option Octet) (from place : ℕ) (part rest piece : List ℕ) (lo : from ≤ place) (hi : place ≤ from + length part)
    (rest_is : rest ≡ drop (place - from) part) (is : IsPiece known place piece) (few : length piece ≤ from + length part - place)
    (left : first_other known place (drop (place - from) part) ≡ first_other known from part) where
  length_rest : length rest ≡ from + length part - place
  length_rest = rw (rest_is, length-drop (place - from) part) (omega (arith, lo, hi))

  pub found_in : (index octet : ℕ) (result : Option OtherOctet) → IsFirstDifference piece rest index → octet ≡ get_or rest index 0
      → result ≡ other_by (known (place + index)) (place + index) octet → result ≡ first_other known from part
  found_in index octet result at octet_is is_other =
      is_other ∙ ap (other_by (known (place + index)) (place + index)) octet_is
      ∙ sym (differs_at known place index piece rest is (omega (arith, few, length_rest)) at)
      ∙ ap (first_other known place) rest_is ∙ left

  pub goes_past : (next : ℕ) → AreAlike piece rest (length piece) → place + length piece ≤ next → next ≤ from + length part
      → ((p : ℕ) → place + length piece ≤ p → p < next → known p ≡ None)
      → first_other known next (drop (next - from) part) ≡ first_other known from part
  goes_past next same further within free =
      ap (first_other known next) (sym (drop_drop (next - place) (place - from) (next - from) part (omega (arith, lo, further))))
      ∙ ap (λ (xs : List ℕ). first_other known next (drop (next - place) xs)) (sym rest_is)
      ∙ sym (passes known place next piece rest is (omega (arith, few, length_rest)) same further (omega (arith, within, length_rest, lo, hi)) free)
      ∙ ap (first_other known place) rest_is ∙ left
