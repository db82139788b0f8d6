-- Octets that come to places one after the other come to them at once.
use Rattle.std.proofs.Common.{◌≡◌, refl, ap, ◌∙◌, sym, ℕ, zero, suc, ◌+◌, ◌-◌, ◌<◌, ◌≤◌, max, Bool, true, false, ◌&&◌, ◌||◌, nat_le, nat_lt, if◌then◌else◌, Option, Some, None, List, [], ◌∷◌, ◌++◌, length, drop, get_or, arith, ◌⊎◌, inl, inr}
use Rattle.std.proofs.Math.Path.{fun_ext}
use Rattle.std.proofs.lemmas.Bool.{cases_lt, eq-eqb}
use Rattle.std.proofs.lemmas.Bool.Decides.{nat_tests}
use Rattle.std.specs.Option.{option_or}
use Rattle.std.specs.List.{list_any, slice_get}
use Rattle.seen_octets.specs.declared.octet.Octet.{Octet}
use Rattle.seen_octets.specs.declared.octet.OtherOctet.{OtherOctet}
use Rattle.seen_octets.specs.Octets.{octet_by}
use Rattle.seen_octets.specs.Others.{first_other, other_by}
use Rattle.judge_rules.specs.declared.finding.Finding.{Finding}
use Rattle.judge_rules.specs.declared.finding.Rule.{Rule}
use Rattle.judge_rules.specs.declared.finding.Rule.TheVariants as rule
use Rattle.judge_rules.specs.Rules.{rule_number}
use Rattle.seen_streams.specs.State.{StreamValue, BrokenValue, Found, is_of, same_rule, with_broken, with_found}
use Rattle.seen_streams.specs.Content.{as_part, at_place, content_fault, other_octet, shown, shown_from}

-- ---- the first time stays

any_last : (which : Rule) (broken : List BrokenValue) (one : BrokenValue) → same_rule which one ≡ true → list_any (same_rule which) (broken ++ one ∷ []) ≡ true
any_last which [] one h = ap (λ b. b || false) h
any_last which (first ∷ broken) one h = by (same_rule which first) (any_last which broken one h)
  where
    by : (b : Bool) → list_any (same_rule which) (broken ++ one ∷ []) ≡ true → (b || list_any (same_rule which) (broken ++ one ∷ [])) ≡ true
    by true rest = refl
    by false rest = rest

is_told : (one : BrokenValue) (broken : List BrokenValue) → list_any (same_rule one.rule) (with_broken one broken) ≡ true
is_told one broken = by (list_any (same_rule one.rule) broken) refl
  where
    by : (b : Bool) → list_any (same_rule one.rule) broken ≡ b → list_any (same_rule one.rule) (if b then broken else broken ++ one ∷ []) ≡ true
    by true e = e
    by false e = any_last one.rule broken one (eq-eqb (rule_number one.rule) (rule_number one.rule) refl)

told_twice : (which : Rule) (packet : ℕ) (one other : Option Finding) (broken : List BrokenValue)
    → with_found which packet other (with_found which packet one broken) ≡ with_found which packet (option_or one other) broken
told_twice which packet None other broken = refl
told_twice which packet (Some one) None broken = refl
told_twice which packet (Some one) (Some other) broken =
    ap (λ b. if b then with_found which packet (Some one) broken
    else with_found which packet (Some one) broken ++ record { rule = which; packet = packet; fault = Found other } ∷ [])
    (is_told (record { rule = which; packet = packet; fault = Found one }) broken)

-- ---- octets of places

octet_if : Bool → ℕ → ℕ → Option Octet
octet_if true octet teller = Some (record { octet = octet; teller = teller })
octet_if false octet teller = None

by_if : (from : ℕ) (part : List ℕ) (teller q : ℕ) → octet_by from part teller q ≡ octet_if (nat_le from q && nat_lt q (from + length part)) (get_or part (q - from) 0) teller
unfolding octet_if
by_if from part teller q = by (nat_le from q && nat_lt q (from + length part))
  where
    by : (b : Bool) → (if b then Some (record { octet = get_or part (q - from) 0; teller = teller }) else None) ≡ octet_if b (get_or part (q - from) 0) teller
    by true = refl
    by false = refl

below_by : (from : ℕ) (part : List ℕ) (teller q : ℕ) → q < from → octet_by from part teller q ≡ None
unfolding octet_if
below_by from part teller q h =
    by_if from part teller q
    ∙ ap (λ b. octet_if b (get_or part (q - from) 0) teller)
    (let e : (nat_le from q && nat_lt q (from + length part)) ≡ false = grind (arith, nat_tests) in e)

none_by : (from teller q : ℕ) → octet_by from [] teller q ≡ None
unfolding octet_if
none_by from teller q =
    by_if from [] teller q
    ∙ ap (λ b. octet_if b (get_or [] (q - from) 0) teller)
    (let e : (nat_le from q && nat_lt q (from + length {A = ℕ} [])) ≡ false = grind (arith, nat_tests) in e)

first_by : (from octet : ℕ) (part : List ℕ) (teller q : ℕ) → q ≡ from
    → octet_by from (octet ∷ part) teller q ≡ Some (record { octet = octet; teller = teller })
unfolding octet_if
first_by from octet part teller q h =
    by_if from (octet ∷ part) teller q
    ∙ ap (λ b. octet_if b (get_or (octet ∷ part) (q - from) 0) teller)
    (let e : (nat_le from q && nat_lt q (from + length (octet ∷ part))) ≡ true = grind (arith, nat_tests) in e)
    ∙ ap (λ (n : ℕ). octet_if true (get_or (octet ∷ part) n 0) teller) (let e : q - from ≡ 0 = omega (arith, h) in e)

behind_by : (from octet : ℕ) (part : List ℕ) (teller q : ℕ) → from < q
    → octet_by from (octet ∷ part) teller q ≡ octet_by (from + 1) part teller q
behind_by from octet part teller q h =
    by_if from (octet ∷ part) teller q
    ∙ ap (λ b. octet_if b (get_or (octet ∷ part) (q - from) 0) teller)
    (let e : (nat_le from q && nat_lt q (from + length (octet ∷ part))) ≡ (nat_le (from + 1) q && nat_lt q (from + 1 + length part)) = grind (arith, nat_tests) in e)
    ∙ ap (λ (n : ℕ). octet_if (nat_le (from + 1) q && nat_lt q (from + 1 + length part)) (get_or (octet ∷ part) n 0) teller)
    (let e : q - from ≡ suc (q - (from + 1)) = omega (arith, h) in e)
    ∙ sym (by_if (from + 1) part teller q)

octet_or : (o : Option Octet) → option_or o None ≡ o
octet_or None = refl
octet_or (Some o) = refl

or_or : (a b c : Option Octet) → option_or (option_or a b) c ≡ option_or a (option_or b c)
or_or None b c = refl
or_or (Some o) b c = refl

joined_by : (from octet : ℕ) (part : List ℕ) (teller q : ℕ)
    → option_or (octet_by from (octet ∷ []) teller q) (octet_by (from + 1) part teller q) ≡ octet_by from (octet ∷ part) teller q
joined_by from octet part teller q = by (cases_lt q from) (cases_lt from q)
  where
    by : (q < from) ⊎ (from ≤ q) → (from < q) ⊎ (q ≤ from)
        → option_or (octet_by from (octet ∷ []) teller q) (octet_by (from + 1) part teller q) ≡ octet_by from (octet ∷ part) teller q
    by (inl a) b =
        ap (λ o. option_or o (octet_by (from + 1) part teller q)) (below_by from (octet ∷ []) teller q a)
        ∙ below_by (from + 1) part teller q (omega (arith, a)) ∙ sym (below_by from (octet ∷ part) teller q a)
    by (inr a) (inl b) =
        ap (λ o. option_or o (octet_by (from + 1) part teller q)) (behind_by from octet [] teller q b ∙ none_by (from + 1) teller q)
        ∙ sym (behind_by from octet part teller q b)
    by (inr a) (inr b) =
        ap (λ o. option_or o (octet_by (from + 1) part teller q)) (first_by from octet [] teller q (omega (arith, a, b)))
        ∙ sym (first_by from octet part teller q (omega (arith, a, b)))

-- ---- places that were seen

or_false : (b : Bool) → (b || false) ≡ b
or_false true = refl
or_false false = refl

or_assoc : (a b c : Bool) → ((a || b) || c) ≡ (a || (b || c))
or_assoc true b c = refl
or_assoc false b c = refl

none_of : (from q : ℕ) → is_of from 0 q ≡ false
none_of from q = grind (arith, nat_tests)

joined_of : (from count q : ℕ) → (is_of from 1 q || is_of (from + 1) count q) ≡ is_of from (suc count) q
joined_of from count q = grind (arith, nat_tests)

-- ---- other octets

same_other : (one other : ℕ → Option Octet) (place : ℕ) (part : List ℕ) → ((q : ℕ) → place ≤ q → one q ≡ other q)
    → first_other one place part ≡ first_other other place part
same_other one other place [] same = refl
same_other one other place (octet ∷ part) same =
    ap (λ (o : Option Octet). option_or (other_by o place octet) (first_other one (place + 1) part)) (same place (omega arith))
    ∙ ap (option_or (other_by (other place) place octet)) (same_other one other (place + 1) part (λ q h. same q (omega (arith, h))))

option_other : (a b : Option OtherOctet) → other_octet (option_or a b) ≡ option_or (other_octet a) (other_octet b)
option_other None b = refl
option_other (Some a) b = refl

drop_none : (n : ℕ) → drop {A = ℕ} n [] ≡ []
drop_none zero = refl
drop_none (suc n) = refl

none_wrong : (acknowledged : ℕ) (octet : ℕ → Option Octet) (place : ℕ) → content_fault acknowledged octet place [] ≡ None
none_wrong acknowledged octet place =
    ap (λ (part : List ℕ). other_octet (first_other octet (max place acknowledged) part)) (drop_none (acknowledged - place))

finding_or : (o : Option Finding) → option_or o None ≡ o
finding_or None = refl
finding_or (Some o) = refl

-- with what the first octet leaves
joined_wrong : (acknowledged : ℕ) (known next : ℕ → Option Octet) (place octet : ℕ) (part : List ℕ) → ((q : ℕ) → place + 1 ≤ q → next q ≡ known q)
    → option_or (content_fault acknowledged known place (octet ∷ [])) (content_fault acknowledged next (place + 1) part)
    ≡ content_fault acknowledged known place (octet ∷ part)
joined_wrong acknowledged known next place octet part same = by (cases_lt place acknowledged)
  where
    by : (place < acknowledged) ⊎ (acknowledged ≤ place)
        → option_or (content_fault acknowledged known place (octet ∷ [])) (content_fault acknowledged next (place + 1) part)
        ≡ content_fault acknowledged known place (octet ∷ part)
    by (inl a) =
        let left : acknowledged - place ≡ suc (acknowledged - (place + 1)) = omega (arith, a) in
        let begins : max place acknowledged ≡ max (place + 1) acknowledged = omega (arith, a) in
        let alone : content_fault acknowledged known place (octet ∷ []) ≡ None =
        ap (λ (n : ℕ). other_octet (first_other known (max place acknowledged) (drop n (octet ∷ [])))) left
        ∙ ap (λ (rest : List ℕ). other_octet (first_other known (max place acknowledged) rest)) (drop_none (acknowledged - (place + 1))) in
        ap (λ (o : Option Finding). option_or o (content_fault acknowledged next (place + 1) part)) alone
        ∙ ap other_octet (same_other next known (max (place + 1) acknowledged) (drop (acknowledged - (place + 1)) part) (λ q h. same q (omega (arith, h))))
        ∙ ap (λ (x : ℕ). other_octet (first_other known x (drop (acknowledged - (place + 1)) part))) (sym begins)
        ∙ ap (λ (n : ℕ). other_octet (first_other known (max place acknowledged) (drop n (octet ∷ part)))) (sym left)
    by (inr a) =
        let left : acknowledged - place ≡ 0 = omega (arith, a) in
        let next_left : acknowledged - (place + 1) ≡ 0 = omega (arith, a) in
        let begins : max place acknowledged ≡ place = omega (arith, a) in
        let next_begins : max (place + 1) acknowledged ≡ place + 1 = omega (arith, a) in
        let whole : (rest : List ℕ) → content_fault acknowledged known place rest ≡ other_octet (first_other known place rest) =
        λ rest. (ap (λ (n : ℕ). other_octet (first_other known (max place acknowledged) (drop n rest))) left
        ∙ ap (λ (x : ℕ). other_octet (first_other known x rest)) begins) in
        let rest_whole : content_fault acknowledged next (place + 1) part ≡ other_octet (first_other known (place + 1) part) =
        ap (λ (n : ℕ). other_octet (first_other next (max (place + 1) acknowledged) (drop n part))) next_left
        ∙ ap (λ (x : ℕ). other_octet (first_other next x part)) next_begins
        ∙ ap other_octet (same_other next known (place + 1) part same) in
        ap (λ (o : Option Finding). option_or o (content_fault acknowledged next (place + 1) part)) (whole (octet ∷ []) ∙ option_other (other_by (known place) place octet) None ∙ finding_or (other_octet (other_by (known place) place octet)))
        ∙ ap (option_or (other_octet (other_by (known place) place octet))) rest_whole
        ∙ sym (option_other (other_by (known place) place octet) (first_other known (place + 1) part))
        ∙ sym (whole (octet ∷ part))

-- ---- one place and then those behind it

same_shown : (stream : StreamValue) (broken other_broken : List BrokenValue) (octet other : ℕ → Option Octet) (seen other_seen : ℕ → Bool)
    → broken ≡ other_broken → ((q : ℕ) → octet q ≡ other q) → ((q : ℕ) → seen q ≡ other_seen q)
    → record stream { broken = broken; octet = octet; seen = seen } ≡ record stream { broken = other_broken; octet = other; seen = other_seen }
same_shown stream broken other_broken octet other seen other_seen b o s =
    ap (λ (x : List BrokenValue). record stream { broken = x; octet = octet; seen = seen }) b
    ∙ ap (λ (f : ℕ → Option Octet). record stream { broken = other_broken; octet = f; seen = seen }) (fun_ext o)
    ∙ ap (λ (f : ℕ → Bool). record stream { broken = other_broken; octet = other; seen = f }) (fun_ext s)

nothing_shown : (acknowledged packet place : ℕ) (stream : StreamValue) → stream ≡ shown acknowledged packet place 0 [] stream
nothing_shown acknowledged packet place stream =
    same_shown stream stream.broken (with_found rule.PlaceContent packet (content_fault acknowledged stream.octet place []) stream.broken)
    stream.octet (λ q. option_or (stream.octet q) (octet_by place [] packet q)) stream.seen (λ q. stream.seen q || is_of place 0 q)
    (sym (ap (λ (o : Option Finding). with_found rule.PlaceContent packet o stream.broken) (none_wrong acknowledged stream.octet place)))
    (λ q. sym (ap (option_or (stream.octet q)) (none_by place packet q) ∙ octet_or (stream.octet q)))
    (λ q. sym (ap (λ b. stream.seen q || b) (none_of place q) ∙ or_false (stream.seen q)))

none_then : (acknowledged packet place count : ℕ) (stream : StreamValue)
    → shown acknowledged packet (place + 1) count [] (shown acknowledged packet place 1 [] stream) ≡ shown acknowledged packet place (suc count) [] stream
none_then acknowledged packet place count stream =
    let one = shown acknowledged packet place 1 [] stream in
    same_shown stream (shown acknowledged packet (place + 1) count [] one).broken (shown acknowledged packet place (suc count) [] stream).broken
    (shown acknowledged packet (place + 1) count [] one).octet (shown acknowledged packet place (suc count) [] stream).octet
    (shown acknowledged packet (place + 1) count [] one).seen (shown acknowledged packet place (suc count) [] stream).seen
    (ap (λ (o : Option Finding). with_found rule.PlaceContent packet o one.broken) (none_wrong acknowledged one.octet (place + 1)))
    (λ q. ap (option_or (one.octet q)) (none_by (place + 1) packet q) ∙ octet_or (one.octet q))
    (λ q. or_assoc (stream.seen q) (is_of place 1 q) (is_of (place + 1) count q) ∙ ap (λ b. stream.seen q || b) (joined_of place count q))

part_then : (acknowledged packet place count octet : ℕ) (part : List ℕ) (stream : StreamValue)
    → shown acknowledged packet (place + 1) count part (shown acknowledged packet place 1 (octet ∷ []) stream)
    ≡ shown acknowledged packet place (suc count) (octet ∷ part) stream
part_then acknowledged packet place count octet part stream =
    let one = shown acknowledged packet place 1 (octet ∷ []) stream in
    same_shown stream (shown acknowledged packet (place + 1) count part one).broken (shown acknowledged packet place (suc count) (octet ∷ part) stream).broken
    (shown acknowledged packet (place + 1) count part one).octet (shown acknowledged packet place (suc count) (octet ∷ part) stream).octet
    (shown acknowledged packet (place + 1) count part one).seen (shown acknowledged packet place (suc count) (octet ∷ part) stream).seen
    (told_twice rule.PlaceContent packet (content_fault acknowledged stream.octet place (octet ∷ [])) (content_fault acknowledged one.octet (place + 1) part) stream.broken
    ∙ ap (λ (o : Option Finding). with_found rule.PlaceContent packet o stream.broken)
    (joined_wrong acknowledged stream.octet one.octet place octet part
    (λ q h. ap (option_or (stream.octet q)) (behind_by place octet [] packet q (omega (arith, h)) ∙ none_by (place + 1) packet q) ∙ octet_or (stream.octet q))))
    (λ q. or_or (stream.octet q) (octet_by place (octet ∷ []) packet q) (octet_by (place + 1) part packet q)
    ∙ ap (option_or (stream.octet q)) (joined_by place octet part packet q))
    (λ q. or_assoc (stream.seen q) (is_of place 1 q) (is_of (place + 1) count q) ∙ ap (λ b. stream.seen q || b) (joined_of place count q))

-- ---- so many positions

module _ (place : ℕ → Option ℕ) (comes : ℕ → Option (Option ℕ)) (acknowledged packet : ℕ) where
  -- in two parts
  pub in_parts : (p m n all next : ℕ) (stream : StreamValue) → all ≡ m + n → next ≡ p + m
      → shown_from place comes acknowledged packet p all stream
      ≡ shown_from place comes acknowledged packet next n (shown_from place comes acknowledged packet p m stream)
  in_parts p zero n all next stream e f =
      let a : all ≡ n = omega (arith, e) in
      let b : p ≡ next = omega (arith, f) in
      ap (λ (x : ℕ). shown_from place comes acknowledged packet p x stream) a
      ∙ ap (λ (x : ℕ). shown_from place comes acknowledged packet x n stream) b
  in_parts p (suc m) n all next stream e f =
      let a : all ≡ suc (m + n) = omega (arith, e) in
      ap (λ (x : ℕ). shown_from place comes acknowledged packet p x stream) a
      ∙ in_parts (p + 1) m n (m + n) next (at_place acknowledged packet (comes p) (place p) stream) refl (omega (arith, f))

  -- none of them comes
  pub none_comes : (p n : ℕ) (stream : StreamValue) → ((i : ℕ) → i < n → comes (p + i) ≡ None)
      → stream ≡ shown_from place comes acknowledged packet p n stream
  none_comes p zero stream none = refl
  none_comes p (suc n) stream none =
      none_comes (p + 1) n stream (λ i h. (let same : p + 1 + i ≡ p + suc i = omega arith in ap comes same ∙ none (suc i) (omega (arith, h))))
      ∙ ap (λ (o : Option (Option ℕ)). shown_from place comes acknowledged packet (p + 1) n (at_place acknowledged packet o (place p) stream))
      (sym ((let same : p ≡ p + 0 = omega arith in ap comes same) ∙ none 0 (omega arith)))

  no_place : (o : Option (Option ℕ)) (stream : StreamValue) → at_place acknowledged packet o None stream ≡ stream
  no_place None stream = refl
  no_place (Some o) stream = refl

  -- none of them has a place
  pub none_placed : (p n : ℕ) (stream : StreamValue) → ((i : ℕ) → i < n → place (p + i) ≡ None)
      → stream ≡ shown_from place comes acknowledged packet p n stream
  none_placed p zero stream none = refl
  none_placed p (suc n) stream none =
      none_placed (p + 1) n stream (λ i h. (let same : p + 1 + i ≡ p + suc i = omega arith in ap place same ∙ none (suc i) (omega (arith, h))))
      ∙ ap (shown_from place comes acknowledged packet (p + 1) n)
      (sym (ap (λ (o : Option ℕ). at_place acknowledged packet (comes p) o stream) ((let same : p ≡ p + 0 = omega arith in ap place same) ∙ none 0 (omega arith))
      ∙ no_place (comes p) stream))

  next_places : (p q n : ℕ) → ((i : ℕ) → i < suc n → place (p + i) ≡ Some (q + i)) → (i : ℕ) → i < n → place (p + 1 + i) ≡ Some (q + 1 + i)
  next_places p q n places i h =
      let one : p + 1 + i ≡ p + suc i = omega arith in
      let other : q + suc i ≡ q + 1 + i = omega arith in
      ap place one ∙ places (suc i) (omega (arith, h)) ∙ ap Some other

  next_octets : (p n : ℕ) (all rest : ℕ → Option ℕ) → ((i : ℕ) → rest i ≡ all (suc i)) → ((i : ℕ) → i < suc n → comes (p + i) ≡ Some (all i))
      → (i : ℕ) → i < n → comes (p + 1 + i) ≡ Some (rest i)
  next_octets p n all rest same octets i h =
      let one : p + 1 + i ≡ p + suc i = omega arith in
      ap comes one ∙ octets (suc i) (omega (arith, h)) ∙ ap Some (sym (same i))

  first_at : (p q : ℕ) (octet : Option ℕ) (stream : StreamValue) → place (p + 0) ≡ Some (q + 0) → comes (p + 0) ≡ Some octet
      → shown acknowledged packet q 1 (as_part octet) stream ≡ at_place acknowledged packet (comes p) (place p) stream
  first_at p q octet stream placed came =
      let one : p ≡ p + 0 = omega arith in
      let other : q + 0 ≡ q = omega arith in
      sym (ap (λ (o : Option (Option ℕ)). at_place acknowledged packet o (place p) stream) (ap comes one ∙ came)
      ∙ ap (λ (o : Option ℕ). at_place acknowledged packet (Some octet) o stream) (ap place one ∙ placed ∙ ap Some other))

  -- their places follow one another, and these octets come to the first of them
  pub at_once : (p q n : ℕ) (part : List ℕ) (stream : StreamValue) → length part ≤ n
      → ((i : ℕ) → i < n → place (p + i) ≡ Some (q + i)) → ((i : ℕ) → i < n → comes (p + i) ≡ Some (slice_get part i))
      → shown acknowledged packet q n part stream ≡ shown_from place comes acknowledged packet p n stream
  at_once p q zero [] stream few places octets = sym (nothing_shown acknowledged packet q stream)
  at_once p q zero (octet ∷ part) stream few places octets = absurd (omega (arith, few))
  at_once p q (suc n) [] stream few places octets =
      sym (none_then acknowledged packet q n stream)
      ∙ at_once (p + 1) (q + 1) n [] (shown acknowledged packet q 1 [] stream) (omega arith) (next_places p q n places)
      (next_octets p n (λ i. None) (λ i. None) (λ i. refl) octets)
      ∙ ap (shown_from place comes acknowledged packet (p + 1) n) (first_at p q None stream (places 0 (omega arith)) (octets 0 (omega arith)))
  at_once p q (suc n) (octet ∷ part) stream few places octets =
      sym (part_then acknowledged packet q n octet part stream)
      ∙ at_once (p + 1) (q + 1) n part (shown acknowledged packet q 1 (octet ∷ []) stream) (omega (arith, few)) (next_places p q n places)
      (next_octets p n (slice_get (octet ∷ part)) (slice_get part) (λ i. refl) octets)
      ∙ ap (shown_from place comes acknowledged packet (p + 1) n) (first_at p q (Some octet) stream (places 0 (omega arith)) (octets 0 (omega arith)))

-- what comes of so many positions alone matters
pub same_comes : (place : ℕ → Option ℕ) (one other : ℕ → Option (Option ℕ)) (acknowledged packet p n : ℕ) (stream : StreamValue)
    → ((q : ℕ) → p ≤ q → q < p + n → one q ≡ other q)
    → shown_from place one acknowledged packet p n stream ≡ shown_from place other acknowledged packet p n stream
same_comes place one other acknowledged packet p zero stream same = refl
same_comes place one other acknowledged packet p (suc n) stream same =
    same_comes place one other acknowledged packet (p + 1) n (at_place acknowledged packet (one p) (place p) stream)
    (λ q lo hi. same q (omega (arith, lo)) (omega (arith, hi)))
    ∙ ap (λ (o : Option (Option ℕ)). shown_from place other acknowledged packet (p + 1) n (at_place acknowledged packet o (place p) stream))
    (same p (omega arith) (omega arith))
