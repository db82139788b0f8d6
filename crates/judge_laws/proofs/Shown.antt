-- Octets that come to their places.
use Rattle.std.proofs.Common.{◌≡◌, refl, ap, ◌∙◌, sym, ℕ, zero, suc, ◌+◌, ◌-◌, ◌<◌, ◌≤◌, ◌⊎◌, inl, inr, Bool, true, false, ◌&&◌, ◌==◌, nat_le, nat_lt, if◌then◌else◌, Option, Some, None, option_map, List, [], ◌∷◌, ◌++◌, max, drop, get_or, arith, true≢false}
use Rattle.std.specs.List.{list_any}
use Rattle.std.specs.Option.{option_or}
use Rattle.std.proofs.lemmas.Bool.{cases_lt, or_left, or_right}
use Rattle.std.proofs.lemmas.Bool.Decides.{nat_tests}
use Rattle.std.proofs.lemmas.List.Folds.{list_any-append}
use Rattle.judge_rules.specs.declared.finding.Finding.{Finding}
use Rattle.judge_rules.specs.declared.finding.Rule.{Rule}
use Rattle.judge_rules.specs.declared.finding.Rule.TheVariants as rule
use Rattle.judge_rules.specs.Rules.{rule_number}
use Rattle.seen_octets.specs.declared.octet.Octet.{Octet}
use Rattle.seen_octets.specs.declared.octet.OtherOctet.{OtherOctet}
use Rattle.seen_octets.specs.Octets.{octet_by}
use Rattle.seen_octets.specs.Others.{first_other, other_by}
use Rattle.seen_streams.specs.State.{BrokenValue, Found, StreamValue, is_of, same_rule, with_broken, with_found}
use Rattle.seen_streams.specs.Content.{as_part, at_place, content_fault, other_octet, shown, shown_from}
use Rattle.judge_laws.specs.GoesOn.{GoesOn, broke}
use Rattle.judge_laws.proofs.GoesOn.{goes_same, goes_then, still_found}

-- ---- what was known stays

or_known : (old add : Option Octet) (octet : Octet) → old ≡ Some octet → option_or old add ≡ Some octet
or_known (Some o) add octet h = h
or_known None add octet h = cc

pub shown_goes : (acknowledged packet place count : ℕ) (part : List ℕ) (s : StreamValue) → GoesOn s (shown acknowledged packet place count part s)
shown_goes acknowledged packet place count part s = record {
  octets = λ p o h. or_known (s.octet p) (octet_by place part packet p) o h;
  seen = λ p h. or_left (s.seen p) (is_of place count p) h;
  starts = λ p h. h;
  mapped = omega arith;
  fin = λ t h. h;
  infinite = λ h. h;
  acknowledged = omega arith;
  broken = λ r h. still_found r rule.PlaceContent packet (content_fault acknowledged s.octet place part) s.broken h;
}

at_place_goes : (acknowledged packet : ℕ) (comes : Option (Option ℕ)) (place : Option ℕ) (s : StreamValue) → GoesOn s (at_place acknowledged packet comes place s)
at_place_goes acknowledged packet None place s = goes_same s
at_place_goes acknowledged packet (Some octet) None s = goes_same s
at_place_goes acknowledged packet (Some octet) (Some place) s = shown_goes acknowledged packet place 1 (as_part octet) s

pub from_goes : (place : ℕ → Option ℕ) (comes : ℕ → Option (Option ℕ)) (acknowledged packet p n : ℕ) (s : StreamValue)
    → GoesOn s (shown_from place comes acknowledged packet p n s)
from_goes place comes acknowledged packet p zero s = goes_same s
from_goes place comes acknowledged packet p (suc n) s =
    let next = at_place acknowledged packet (comes p) (place p) s in
    goes_then s next (shown_from place comes acknowledged packet (p + 1) n next) (at_place_goes acknowledged packet (comes p) (place p) s)
    (from_goes place comes acknowledged packet (p + 1) n next)

-- ---- a rule that is found broken is told

same_number : (n : ℕ) → (n == n) ≡ true
same_number n = grind (arith, nat_tests)

pub told_there : (fault : BrokenValue) (broken : List BrokenValue) → list_any (same_rule fault.rule) (with_broken fault broken) ≡ true
told_there fault broken = by (list_any (same_rule fault.rule) broken) refl
  where
    by : (b : Bool) → list_any (same_rule fault.rule) broken ≡ b → list_any (same_rule fault.rule) (if b then broken else broken ++ fault ∷ []) ≡ true
    by true e = e
    by false e =
        list_any-append (same_rule fault.rule) broken (fault ∷ [])
        ∙ or_right (list_any (same_rule fault.rule) broken) (list_any (same_rule fault.rule) (fault ∷ []))
        (or_left (rule_number fault.rule == rule_number fault.rule) false (same_number (rule_number fault.rule)))

pub none_found : (which : Rule) (packet : ℕ) (finding : Option Finding) (broken : List BrokenValue)
    → list_any (same_rule which) (with_found which packet finding broken) ≡ false → finding ≡ None
none_found which packet None broken h = refl
none_found which packet (Some finding) broken h =
    absurd (true≢false (sym (told_there (record { rule = which; packet = packet; fault = Found finding }) broken) ∙ h))

-- ---- an octet at its place

other_there : (b : Bool) (other : OtherOctet) → b ≡ false → option_or (if b then None else Some other) None ≡ None → ⊥
other_there false other e h = cc
other_there true other e h = true≢false e

-- no other octet was there
octet_there : (was : Option Octet) (place octet packet : ℕ) → option_or (other_by was place octet) None ≡ None
    → option_map (λ o. o.octet) (option_or was (Some (record { octet = octet; teller = packet }))) ≡ Some octet
octet_there None place octet packet h = refl
octet_there (Some was) place octet packet h = by (was.octet == octet) refl
  where
    by : (b : Bool) → (was.octet == octet) ≡ b → Some was.octet ≡ Some octet
    by true e = let same : was.octet ≡ octet = grind (arith, nat_tests, e) in ap Some same
    by false e = absurd (other_there (was.octet == octet) (record { place = place; was = was.octet; teller = was.teller; is = octet }) e h)

no_finding : (other : Option OtherOctet) → other_octet other ≡ None → other ≡ None
no_finding None h = refl
no_finding (Some other) h = cc

here : (place octet packet : ℕ) → octet_by place (octet ∷ []) packet place ≡ Some (record { octet = octet; teller = packet })
here place octet packet =
    let lo : nat_le place place ≡ true = grind (arith, nat_tests) in
    let hi : nat_lt place (place + 1) ≡ true = grind (arith, nat_tests) in
    let first : place - place ≡ 0 = omega arith in
    ap (λ b. if b && nat_lt place (place + 1) then Some (let o : Octet = record { octet = get_or (octet ∷ []) (place - place) 0; teller = packet } in o) else None) lo
    ∙ ap (λ b. if b then Some (let o : Octet = record { octet = get_or (octet ∷ []) (place - place) 0; teller = packet } in o) else None) hi
    ∙ ap (λ (i : ℕ). Some (let o : Octet = record { octet = get_or (octet ∷ []) i 0; teller = packet } in o)) first

-- where the place isn't acknowledged, and no other octet is found there
one_there : (acknowledged packet place octet : ℕ) (s : StreamValue) → acknowledged ≤ place
    → broke rule.PlaceContent (shown acknowledged packet place 1 (octet ∷ []) s) ≡ false
    → option_map (λ o. o.octet) ((shown acknowledged packet place 1 (octet ∷ []) s).octet place) ≡ Some octet
one_there acknowledged packet place octet s few kept =
    ap (λ (add : Option Octet). option_map (λ o. o.octet) (option_or (s.octet place) add)) (here place octet packet)
    ∙ octet_there (s.octet place) place octet packet none
  where
    found : content_fault acknowledged s.octet place (octet ∷ []) ≡ None
    found = none_found rule.PlaceContent packet (content_fault acknowledged s.octet place (octet ∷ [])) s.broken kept

    none : option_or (other_by (s.octet place) place octet) None ≡ None
    none =
        let at : max place acknowledged ≡ place = omega (arith, few) in
        let skipped : acknowledged - place ≡ 0 = omega (arith, few) in
        sym (ap (λ (q : ℕ). first_other s.octet q (drop (acknowledged - place) (octet ∷ []))) at
        ∙ ap (λ (n : ℕ). first_other s.octet place (drop n (octet ∷ []))) skipped)
        ∙ no_finding (first_other s.octet (max place acknowledged) (drop (acknowledged - place) (octet ∷ []))) found

-- what was known is known later
pub known_later : (old new : StreamValue) (place octet : ℕ) → GoesOn old new → option_map (λ o. o.octet) (old.octet place) ≡ Some octet
    → option_map (λ o. o.octet) (new.octet place) ≡ Some octet
known_later old new place octet goes h = by (old.octet place) refl h
  where
    by : (o : Option Octet) → old.octet place ≡ o → option_map (λ o. o.octet) o ≡ Some octet → option_map (λ o. o.octet) (new.octet place) ≡ Some octet
    by None e h = cc
    by (Some o) e h = ap (option_map (λ o. o.octet)) (goes.octets place o e) ∙ h

-- what isn't broken later wasn't before
pub kept_before : (old new : StreamValue) (which : Rule) → GoesOn old new → broke which new ≡ false → broke which old ≡ false
kept_before old new which goes kept = by (broke which old) refl
  where
    by : (b : Bool) → broke which old ≡ b → b ≡ false
    by false e = refl
    by true e = absurd (true≢false (sym (goes.broken which e) ∙ kept))

-- ---- positions one after the other

-- the first of them
first_shown : (place : ℕ → Option ℕ) (comes : ℕ → Option (Option ℕ)) (acknowledged packet p n q octet : ℕ) (s next : StreamValue)
    → next ≡ shown acknowledged packet q 1 (octet ∷ []) s → acknowledged ≤ q
    → broke rule.PlaceContent (shown_from place comes acknowledged packet p n next) ≡ false
    → option_map (λ o. o.octet) ((shown_from place comes acknowledged packet p n next).octet q) ≡ Some octet
first_shown place comes acknowledged packet p n q octet s next is few kept =
    known_later next (shown_from place comes acknowledged packet p n next) q octet (from_goes place comes acknowledged packet p n next)
    (ap (λ (x : StreamValue). option_map (λ o. o.octet) (x.octet q)) is
    ∙ one_there acknowledged packet q octet s few
    (ap (broke rule.PlaceContent) (sym is)
    ∙ kept_before next (shown_from place comes acknowledged packet p n next) rule.PlaceContent (from_goes place comes acknowledged packet p n next) kept))

is_next : (place : ℕ → Option ℕ) (comes : ℕ → Option (Option ℕ)) (acknowledged packet p at q octet : ℕ) (s : StreamValue) → p ≡ at
    → comes at ≡ Some (Some octet) → place at ≡ Some q → at_place acknowledged packet (comes p) (place p) s ≡ shown acknowledged packet q 1 (octet ∷ []) s
is_next place comes acknowledged packet p at q octet s same come there =
    ap (λ (x : ℕ). at_place acknowledged packet (comes x) (place x) s) same
    ∙ ap (λ (c : Option (Option ℕ)). at_place acknowledged packet c (place at) s) come
    ∙ ap (λ (r : Option ℕ). at_place acknowledged packet (Some (Some octet)) r s) there

either : {X : Type 0} → (p at : ℕ) → p ≤ at → (p < at → X) → (p ≡ at → X) → X
either {X = X} p at lo later now = by (cases_lt p at)
  where
    by : (p < at) ⊎ (at ≤ p) → X
    by (inl after) = later after
    by (inr until) = now (omega (arith, lo, until))

pub octet_shown : (place : ℕ → Option ℕ) (comes : ℕ → Option (Option ℕ)) (acknowledged packet p n at q octet : ℕ) (s : StreamValue)
    → p ≤ at → at < p + n → comes at ≡ Some (Some octet) → place at ≡ Some q → acknowledged ≤ q
    → broke rule.PlaceContent (shown_from place comes acknowledged packet p n s) ≡ false
    → option_map (λ o. o.octet) ((shown_from place comes acknowledged packet p n s).octet q) ≡ Some octet
octet_shown place comes acknowledged packet p zero at q octet s lo hi come there few kept = absurd (omega (arith, lo, hi))
octet_shown place comes acknowledged packet p (suc n) at q octet s lo hi come there few kept =
    let next = at_place acknowledged packet (comes p) (place p) s in
    either p at lo
    (λ after. octet_shown place comes acknowledged packet (p + 1) n at q octet next (omega (arith, after)) (omega (arith, hi)) come there few kept)
    (λ same. first_shown place comes acknowledged packet (p + 1) n q octet s next (is_next place comes acknowledged packet p at q octet s same come there) few kept)
