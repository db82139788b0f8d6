-- Octets that are put behind those that are there.
use Rattle.std.proofs.Common.{◌≡◌, ◌≢◌, refl, ap, ◌∙◌, sym, subst, ℕ, zero, suc, ◌+◌, ◌-◌, ◌<◌, ◌≤◌, Bool, true, false, ◌&&◌, nat_le, nat_lt, is_some, if◌then◌else◌, Option, Some, None, option_map, IfSome, IfNone, not, List, ◌++◌, length, get_or, length-append, Result, Ok, Err, OnOk, OnErr, arith, true≢false, ◌⊎◌, inl, inr}
use Rattle.std.specs.Option.{option_or}
use Rattle.std.proofs.lemmas.List.{get_or_append_left, get_or-append-add}
use Rattle.std.proofs.lemmas.Bool.{cases_lt}
use Rattle.std.proofs.lemmas.Bool.Decides.{nat_tests}
use Rattle.first_runs.specs.declared.run.Run.{Run}
use Rattle.first_runs.specs.Runs.{Told, cut_to, image_in, told_at, told_by, IsFilledBelow, IsGap}
use Rattle.seen_octets.specs.declared.octet.Octet.{Octet}
use Rattle.seen_octets.specs.Octets.{Kept, has_place, octet_told, octet_at, octet_by, AreThere, all_held}

-- where the octets of a part stand that is put behind others
abbrev pub run_of : ℕ → List ℕ → ℕ → List ℕ → Run
run_of from part teller octets = record { from = from; to = from + length part; image = length octets; teller = teller }

-- ---- what is kept
same_told : (octets part : List ℕ) (told : Told) → told.image < length octets → octet_told (octets ++ part) told ≡ octet_told octets told
same_told octets part told h = ap (λ (n : ℕ). record { octet = n; teller = told.teller }) (get_or_append_left octets part 0 told.image h)

new_told : (octets part : List ℕ) (from teller p : ℕ) (b : Bool)
    → option_map (octet_told (octets ++ part)) (if b then Some (image_in (run_of from part teller octets) p) else None)
    ≡ (if b then Some (record { octet = get_or part (p - from) 0; teller = teller }) else None)
new_told octets part from teller p true = ap Some (ap (λ (n : ℕ). record { octet = n; teller = teller }) (get_or-append-add octets part (p - from) 0))
new_told octets part from teller p false = refl

first_kept : (octets part : List ℕ) (from teller p : ℕ) (o : Option Told) → IfSome o (λ told. told.image < length octets)
    → option_map (octet_told (octets ++ part)) (option_or o (told_by (run_of from part teller octets) p))
    ≡ option_or (option_map (octet_told octets) o) (octet_by from part teller p)
first_kept octets part from teller p None h = new_told octets part from teller p (nat_le from p && nat_lt p (from + length part))
first_kept octets part from teller p (Some told) h = ap Some (same_told octets part told h)

pub filled : (octets part : List ℕ) (old new : List Run) (from teller p : ℕ) → AreThere octets old
    → told_at new p ≡ option_or (told_at old p) (told_by (run_of from part teller octets) p)
    → octet_at (record { octets = octets ++ part; runs = new }) p
    ≡ option_or (octet_at (record { octets = octets; runs = old }) p) (octet_by from part teller p)
filled octets part old new from teller p there is =
    ap (option_map (octet_told (octets ++ part))) is ∙ first_kept octets part from teller p (told_at old p) (there p)

-- ---- places outside of the part
none_by : (run : Run) (from p : ℕ) (part : List ℕ) → run.from ≡ from → run.to ≤ from + length part → has_place from part p ≡ false → told_by run p ≡ None
none_by run from p part begins ends out = by (nat_le run.from p) (nat_lt p run.to) refl refl
  where
    by : (a b : Bool) → nat_le run.from p ≡ a → nat_lt p run.to ≡ b → (if a && b then Some (image_in run p) else None) ≡ None
    by true true e f =
        let lo : nat_le from p ≡ true = grind (arith, nat_tests, e, begins) in
        let hi : nat_lt p (from + length part) ≡ true = grind (arith, nat_tests, f, ends) in
        absurd (true≢false (sym (ap (λ b. b && nat_lt p (from + length part)) lo ∙ hi) ∙ out))
    by true false e f = refl
    by false b e f = refl

still_told : (octets part : List ℕ) (o : Option Told) → IfSome o (λ told. told.image < length octets)
    → option_map (octet_told (octets ++ part)) (option_or o None) ≡ option_map (octet_told octets) o
still_told octets part None h = refl
still_told octets part (Some told) h = ap Some (same_told octets part told h)

stays_with : (octets part : List ℕ) (old new : List Run) (run : Run) (from p : ℕ) → AreThere octets old → run.from ≡ from → run.to ≤ from + length part
    → told_at new p ≡ option_or (told_at old p) (told_by run p) → has_place from part p ≡ false
    → octet_at (record { octets = octets ++ part; runs = new }) p ≡ octet_at (record { octets = octets; runs = old }) p
stays_with octets part old new run from p there begins ends is out =
    ap (option_map (octet_told (octets ++ part))) (is ∙ ap (option_or (told_at old p)) (none_by run from p part begins ends out))
    ∙ still_told octets part (told_at old p) (there p)

-- also where memory is wanting
pub others_stay : {X E : Type 0} (result : Result X E) (octets part : List ℕ) (old new : List Run) (from teller p : ℕ) → AreThere octets old
    → OnOk result ((p : ℕ) → told_at new p ≡ option_or (told_at old p) (told_by (run_of from part teller octets) p))
    → OnErr result (IsFilledBelow (run_of from part teller octets) old new) → has_place from part p ≡ false
    → octet_at (record { octets = octets ++ part; runs = new }) p ≡ octet_at (record { octets = octets; runs = old }) p
others_stay (Ok x) octets part old new from teller p there ok err out =
    stays_with octets part old new (run_of from part teller octets) from p there refl (omega arith) (ok p) out
others_stay (Err e) octets part old new from teller p there ok err out =
    stays_with octets part old new (cut_to from err.end (run_of from part teller octets)) from p there refl (omega arith) (err.told p) out

-- ---- where it stands
run_there : (run : Run) (p n : ℕ) → run.image + (run.to - run.from) ≤ n → IfSome (told_by run p) (λ told. told.image < n)
run_there run p n h = by (nat_le run.from p) (nat_lt p run.to) refl refl
  where
    by : (a b : Bool) → nat_le run.from p ≡ a → nat_lt p run.to ≡ b → IfSome (if a && b then Some (image_in run p) else None) (λ told. told.image < n)
    by true true e f = grind (arith, e, f, h)
    by true false e f = tt
    by false b e f = tt

or_there : (n m : ℕ) (o r : Option Told) → n ≤ m → IfSome o (λ told. told.image < n) → IfSome r (λ told. told.image < m)
    → IfSome (option_or o r) (λ told. told.image < m)
or_there n m None r h there run = run
or_there n m (Some told) r h there run = omega (arith, h, there)

-- with the images of a run that stand in the part
pub there_with : (octets part : List ℕ) (old new : List Run) (run : Run) → AreThere octets old
    → ((p : ℕ) → told_at new p ≡ option_or (told_at old p) (told_by run p)) → run.image + (run.to - run.from) ≤ length octets + length part
    → AreThere (octets ++ part) new
there_with octets part old new run there is h p =
    subst (λ (o : Option Told). IfSome o (λ told. told.image < length (octets ++ part))) (sym (is p))
    (rw (length-append octets part)
    (or_there (length octets) (length octets + length part) (told_at old p) (told_by run p) (omega arith) (there p)
    (run_there run p (length octets + length part) h)))

pub there_longer : (octets part : List ℕ) (runs : List Run) → AreThere octets runs → AreThere (octets ++ part) runs
there_longer octets part runs there p =
    rw (length-append octets part) (longer (told_at runs p) (there p))
  where
    longer : (o : Option Told) → IfSome o (λ told. told.image < length octets) → IfSome o (λ told. told.image < length octets + length part)
    longer None h = tt
    longer (Some told) h = omega (arith, h)

-- ---- all places have octets
map_some : (octets : List ℕ) (o : Option Told) → is_some (option_map (octet_told octets) o) ≡ is_some o
map_some octets None = refl
map_some octets (Some told) = refl

some_true : (o : Option Told) → o ≢ None → is_some o ≡ true
some_true None h = absurd (h refl)
some_true (Some told) h = refl

pub whole_told : (kept : Kept) (from n : ℕ) → ((p : ℕ) → from ≤ p → p < from + n → told_at kept.runs p ≢ None) → all_held (octet_at kept) from n ≡ true
whole_told kept from zero all = refl
whole_told kept from (suc n) all =
    rw (map_some kept.octets (told_at kept.runs from) ∙ some_true (told_at kept.runs from) (all from (omega arith) (omega arith)))
    (whole_told kept (from + 1) n (λ p h k. all p (omega (arith, h)) (omega (arith, k))))

pub not_whole : (kept : Kept) (from n p : ℕ) → from ≤ p → p < from + n → told_at kept.runs p ≡ None → all_held (octet_at kept) from n ≡ false
not_whole kept from zero p h k none = absurd (omega (arith, h, k))
not_whole kept from (suc n) p h k none = by (is_some (octet_at kept from)) refl (cases_lt from p) (λ a. not_whole kept (from + 1) n p a (omega (arith, k)) none)
  where
    by : (b : Bool) → is_some (octet_at kept from) ≡ b → (from < p) ⊎ (p ≤ from) → (from + 1 ≤ p → all_held (octet_at kept) (from + 1) n ≡ false)
        → (b && all_held (octet_at kept) (from + 1) n) ≡ false
    by false e place later = refl
    by true e (inl a) later = later (omega (arith, a))
    by true e (inr a) later =
        let same : from ≡ p = omega (arith, h, a) in
        let here : is_some (octet_at kept from) ≡ false = map_some kept.octets (told_at kept.runs from) ∙ ap (λ (x : ℕ). is_some (told_at kept.runs x)) same ∙ ap is_some none in
        absurd (true≢false (sym e ∙ here))

none_left : (b : Bool) → false ≡ not b → b ≡ true
none_left true h = refl
none_left false h = h

some_left : (b : Bool) → true ≡ not b → b ≡ false
some_left true h = h
some_left false h = refl

pub whole_by : (kept : Kept) (from to : ℕ) (gap : Option (ℕ × ℕ)) (b : Bool) → IfSome gap (λ g. IsGap kept.runs from to g.0 g.1)
    → IfNone gap ((p : ℕ) → from ≤ p → p < to → told_at kept.runs p ≢ None) → is_some gap ≡ not b → b ≡ all_held (octet_at kept) from (to - from)
whole_by kept from to None b some none e = none_left b e ∙ sym (whole_told kept from (to - from) (λ p h k. none p h (omega (arith, k))))
whole_by kept from to (Some g) b some none e =
    some_left b e
    ∙ sym (not_whole kept from (to - from) g.0 some.begun (omega (arith, some.begun, some.some, some.within)) (some.free g.0 (omega arith) some.some))

-- where all have one, none gets one
octet_or : (o : Option Octet) → option_or o None ≡ o
octet_or None = refl
octet_or (Some o) = refl

or_first : (o r : Option Octet) → is_some o ≡ true → option_or o r ≡ o
or_first None r h = absurd (true≢false (sym h))
or_first (Some o) r h = refl

held_at : (octet : ℕ → Option Octet) (from n p : ℕ) → all_held octet from n ≡ true → from ≤ p → p < from + n → is_some (octet p) ≡ true
held_at octet from zero p all h k = absurd (omega (arith, h, k))
held_at octet from (suc n) p all h k =
    by (is_some (octet from)) refl (cases_lt from p) (λ rest a. held_at octet (from + 1) n p rest a (omega (arith, k)))
  where
    by : (b : Bool) → is_some (octet from) ≡ b → (from < p) ⊎ (p ≤ from) → (all_held octet (from + 1) n ≡ true → from + 1 ≤ p → is_some (octet p) ≡ true)
        → is_some (octet p) ≡ true
    by true e (inl a) later = later (sym (ap (λ b. b && all_held octet (from + 1) n) e) ∙ all) (omega (arith, a))
    by true e (inr a) later = let same : from ≡ p = omega (arith, h, a) in rw (sym same) e
    by false e place later = absurd (true≢false (sym all ∙ ap (λ b. b && all_held octet (from + 1) n) e))

already : (kept : Kept) (from teller p : ℕ) (part : List ℕ) → all_held (octet_at kept) from (length part) ≡ true
    → octet_at kept p ≡ option_or (octet_at kept p) (octet_by from part teller p)
already kept from teller p part all = by (nat_le from p) (nat_lt p (from + length part)) refl refl
  where
    by : (a b : Bool) → nat_le from p ≡ a → nat_lt p (from + length part) ≡ b
        → octet_at kept p ≡ option_or (octet_at kept p) (if a && b then Some (record { octet = get_or part (p - from) 0; teller = teller }) else None)
    by true true e f = sym (or_first (octet_at kept p) (Some (record { octet = get_or part (p - from) 0; teller = teller }))
        (held_at (octet_at kept) from (length part) p all (grind (arith, e)) (grind (arith, f))))
    by true false e f = sym (octet_or (octet_at kept p))
    by false b e f = sym (octet_or (octet_at kept p))

pub already_by : (kept : Kept) (from to teller p : ℕ) (part : List ℕ) (b : Bool) → to ≡ from + length part
    → b ≡ all_held (octet_at kept) from (to - from) → b ≡ true → octet_at kept p ≡ option_or (octet_at kept p) (octet_by from part teller p)
already_by kept from to teller p part b e is all =
    let few : length part ≡ to - from = omega (arith, e) in
    already kept from teller p part (ap (all_held (octet_at kept) from) few ∙ sym is ∙ all)
