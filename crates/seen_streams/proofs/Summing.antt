-- Mappings with a checksum, and the octets that they cover.
use Rattle.std.proofs.Common.{◌≡◌, refl, ap, ◌∙◌, sym, ℕ, zero, suc, ◌+◌, ◌-◌, ◌^◌, ◌<◌, ◌≤◌, Bool, true, false, ◌&&◌, ◌||◌, nat_le, nat_lt, is_some, if◌then◌else◌, Option, Some, None, option_map, List, [], ◌∷◌, ◌++◌, length, arith, true≢false, ℤ, ◌⊎◌, inl, inr}
use Rattle.std.proofs.Math.Path.{fun_ext}
use Rattle.std.proofs.lemmas.Bool.{cases_lt}
use Rattle.std.proofs.lemmas.Bool.Decides.{Decides-int_eq, nat_tests}
use Rattle.std.specs.List.{list_any}
use Rattle.std.specs.Ordering.{int_eq}
use Rattle.seq_units.specs.declared.mapping.Mapping.{Mapping}
use Rattle.dss_checksum.specs.Checksum.{dss_checksum}
use Rattle.dss_checksum.specs.MappingSum.{MappingSum, sum_of}
use Rattle.first_runs.specs.declared.run.Run.{Run}
use Rattle.seen_octets.specs.declared.octet.Octet.{Octet}
use Rattle.seen_octets.specs.Octets.{IsPiece, all_held}
use Rattle.seen_octets.specs.Places.{is_seen}
use Rattle.seen_streams.specs.declared.told.ToldMapping.{ToldMapping}
use Rattle.seen_streams.specs.State.{LaneValue}
use Rattle.judge_rules.specs.Mappings.{natural}
use Rattle.seen_streams.specs.Same.{same_mapping}
use Rattle.seen_streams.specs.Shows.{AreBegun, LaneKept, lane_of}
use Rattle.seen_streams.specs.Sums.{held_octets, octet_or_0, with_sum}

-- ---- each once

or_assoc : (a b c : Bool) → ((a || b) || c) ≡ (a || (b || c))
or_assoc true b c = refl
or_assoc false b c = refl

or_false : (b : Bool) → (b || false) ≡ b
or_false true = refl
or_false false = refl

pub any_push : (mappings : List ToldMapping) (mapping other : ToldMapping)
    → list_any (same_mapping other) (mappings ++ mapping ∷ []) ≡ (list_any (same_mapping other) mappings || same_mapping other mapping)
any_push [] mapping other = or_false (same_mapping other mapping)
any_push (one ∷ mappings) mapping other =
    ap (λ b. same_mapping other one || b) (any_push mappings mapping other)
    ∙ sym (or_assoc (same_mapping other one) (list_any (same_mapping other) mappings) (same_mapping other mapping))

-- one that was told before
pub sum_stays : (packet : ℕ) (mapping : ToldMapping) (lane : LaneValue) → lane.summed mapping ≡ true → lane ≡ with_sum packet mapping lane
sum_stays packet mapping lane h = sym (ap (λ b. if b then lane else record lane {
  summed = λ other. lane.summed other || same_mapping other mapping;
  waiting = lane.waiting ++ record { mapping = mapping; packet = packet } ∷ [];
}) h)

-- one that is new
pub sum_added : (packet : ℕ) (mapping : ToldMapping) (old kept new : LaneKept) → (lane_of old).summed mapping ≡ false
    → kept ≡ record old { summed = old.summed ++ mapping ∷ [] } → new ≡ record kept { waiting = kept.waiting ++ record { mapping = mapping; packet = packet } ∷ [] }
    → lane_of new ≡ with_sum packet mapping (lane_of old)
sum_added packet mapping old kept new none k n =
    let all : (λ other. list_any (same_mapping other) (old.summed ++ mapping ∷ [])) ≡ (λ other. list_any (same_mapping other) old.summed || same_mapping other mapping) =
    fun_ext (λ other. any_push old.summed mapping other) in
    ap lane_of (n ∙ ap (λ (l : LaneKept). record l { waiting = l.waiting ++ record { mapping = mapping; packet = packet } ∷ [] }) k)
    ∙ ap (λ (f : ToldMapping → Bool). record (lane_of old) { summed = f; waiting = old.waiting ++ record { mapping = mapping; packet = packet } ∷ [] }) all
    ∙ sym (ap (λ b. if b then lane_of old else record (lane_of old) {
      summed = λ other. (lane_of old).summed other || same_mapping other mapping;
      waiting = (lane_of old).waiting ++ record { mapping = mapping; packet = packet } ∷ [];
    }) none)

-- a position with which no mapping begins
and_first : (a b : Bool) → (a && b) ≡ true → a ≡ true
and_first true b h = refl
and_first false b h = h

and_second : (a b : Bool) → (a && b) ≡ true → b ≡ true
and_second true b h = h
and_second false b h = absurd (true≢false (sym h))

no_begin : (begun : List Run) (one mapping : ToldMapping) → is_seen begun (natural one.position) ≡ true
    → is_seen begun (natural mapping.position) ≡ false → same_mapping mapping one ≡ false
no_begin begun one mapping begins none = by (same_mapping mapping one) refl
  where
    by : (b : Bool) → same_mapping mapping one ≡ b → b ≡ false
    by false e = refl
    by true e =
        let position : int_eq mapping.position one.position ≡ true = and_first _ _ (and_second _ _ e) in
        let same : mapping.position ≡ one.position = (Decides-int_eq mapping.position one.position).0 position in
        absurd (true≢false (sym begins ∙ ap (λ (x : ℤ). is_seen begun (natural x)) (sym same) ∙ none))

none_same : (begun : List Run) (mappings : List ToldMapping) (mapping : ToldMapping) → AreBegun begun mappings
    → is_seen begun (natural mapping.position) ≡ false → list_any (same_mapping mapping) mappings ≡ false
none_same begun [] mapping each none = refl
none_same begun (one ∷ mappings) mapping each none =
    ap (λ b. b || list_any (same_mapping mapping) mappings) (no_begin begun one mapping (each 0 one (omega arith)) none)
    ∙ none_same begun mappings mapping (λ k d h. each (suc k) d (omega (arith, h))) none

pub none_begins : (begun : List Run) (mappings : List ToldMapping) (mapping : ToldMapping) (from : ℕ) → AreBegun begun mappings
    → from ≡ natural mapping.position → is_seen begun from ≡ false → false ≡ list_any (same_mapping mapping) mappings
none_begins begun mappings mapping from each begins none =
    sym (none_same begun mappings mapping each (ap (is_seen begun) (sym begins) ∙ none))

-- a mapping more
added : (old new : List Run) (mappings : List ToldMapping) (mapping : ToldMapping) → AreBegun old mappings
    → ((p : ℕ) → is_seen old p ≡ true → is_seen new p ≡ true) → is_seen new (natural mapping.position) ≡ true
    → AreBegun new (mappings ++ mapping ∷ [])
added old new [] mapping each stays here zero d h = here
added old new [] mapping each stays here (suc k) d h = absurd (omega (arith, h))
added old new (one ∷ mappings) mapping each stays here zero d h = stays (natural one.position) (each 0 one (omega arith))
added old new (one ∷ mappings) mapping each stays here (suc k) d h =
    added old new mappings mapping (λ i e m. each (suc i) e (omega (arith, m))) stays here k d (omega (arith, h))

or_true : (b : Bool) → (b || true) ≡ true
or_true true = refl
or_true false = refl

pub begun_push : (old new : List Run) (mappings kept : List ToldMapping) (mapping : ToldMapping) (from : ℕ) → AreBegun old mappings
    → ((p : ℕ) → is_seen new p ≡ (is_seen old p || (nat_le from p && nat_lt p (from + 1)))) → ((p : ℕ) → is_seen old p ≡ true → is_seen new p ≡ true)
    → from ≡ natural mapping.position → kept ≡ mappings ++ mapping ∷ [] → AreBegun new kept
begun_push old new mappings kept mapping from each more stays begins is =
    let within : (nat_le from from && nat_lt from (from + 1)) ≡ true = grind (arith, nat_tests) in
    let here : is_seen new from ≡ true = more from ∙ ap (λ b. is_seen old from || b) within ∙ or_true (is_seen old from) in
    rw is (added old new mappings mapping each stays (ap (is_seen new) (sym begins) ∙ here))

pub begun_more : (old new : List Run) (mappings : List ToldMapping) → AreBegun old mappings
    → ((p : ℕ) → is_seen old p ≡ true → is_seen new p ≡ true) → AreBegun new mappings
begun_more old new mappings each stays k d h = stays _ (each k d h)

-- ---- the octets of positions

pub parts_held : (octet : ℕ → Option Octet) (from m n all next : ℕ) → all ≡ m + n → next ≡ from + m
    → held_octets octet from all ≡ held_octets octet from m ++ held_octets octet next n
parts_held octet from zero n all next e f =
    let a : all ≡ n = omega (arith, e) in
    let b : from ≡ next = omega (arith, f) in
    ap (held_octets octet from) a ∙ ap (λ (x : ℕ). held_octets octet x n) b
parts_held octet from (suc m) n all next e f =
    let a : all ≡ suc (m + n) = omega (arith, e) in
    ap (held_octets octet from) a
    ∙ ap (λ (rest : List ℕ). octet_or_0 (octet from) ∷ rest) (parts_held octet (from + 1) m n (m + n) next refl (omega (arith, f)))

held_is : (o : Option Octet) (n : ℕ) → option_map (λ o. o.octet) o ≡ Some n → octet_or_0 o ≡ n
held_is None n h = cc
held_is (Some o) n h = cc

pub piece_held : (octet : ℕ → Option Octet) (from : ℕ) (part : List ℕ) → IsPiece octet from part → held_octets octet from (length part) ≡ part
piece_held octet from [] is = refl
piece_held octet from (first ∷ part) is =
    let here : octet_or_0 (octet from) ≡ first =
    held_is (octet from) first ((let same : from ≡ from + 0 = omega arith in ap (λ (x : ℕ). option_map (λ o. o.octet) (octet x)) same) ∙ is 0 (omega arith)) in
    let rest : held_octets octet (from + 1) (length part) ≡ part =
    piece_held octet (from + 1) part (λ i h. (let same : from + 1 + i ≡ from + suc i = omega arith in
    ap (λ (x : ℕ). option_map (λ o. o.octet) (octet x)) same ∙ is (suc i) (omega (arith, h)))) in
    ap (λ (x : ℕ). x ∷ held_octets octet (from + 1) (length part)) here ∙ ap (λ (xs : List ℕ). first ∷ xs) rest

length_held : (octet : ℕ → Option Octet) (from n : ℕ) → length (held_octets octet from n) ≡ n
length_held octet from zero = refl
length_held octet from (suc n) = ap suc (length_held octet (from + 1) n)

pub whole_is : (octet : ℕ → Option Octet) (from n start count : ℕ) (b : Bool) → b ≡ all_held octet from (from + n - from) → from ≡ start → n ≡ count
    → b ≡ all_held octet start count
whole_is octet from n start count b is e f =
    let all : from + n - from ≡ count = omega (arith, f) in
    is ∙ ap (all_held octet from) all ∙ ap (λ (x : ℕ). all_held octet x count) e

-- ---- the sum of all octets of a mapping, part by part
pub sum_begun : (octet : ℕ → Option Octet) (from : ℕ) (header : Mapping) (sum : MappingSum) → sum ≡ sum_of header []
    → sum ≡ sum_of header (held_octets octet from (from - from))
sum_begun octet from header sum is =
    let none : 0 ≡ from - from = omega arith in
    is ∙ ap (λ (n : ℕ). sum_of header (held_octets octet from n)) none

pub sum_more : (octet : ℕ → Option Octet) (header : Mapping) (from position : ℕ) (part : List ℕ) (old new : MappingSum) → from ≤ position
    → IsPiece octet position part → ((mapping : Mapping) (octets : List ℕ) → old ≡ sum_of mapping octets → new ≡ sum_of mapping (octets ++ part))
    → old ≡ sum_of header (held_octets octet from (position - from)) → new ≡ sum_of header (held_octets octet from (position + length part - from))
sum_more octet header from position part old new lo is add before =
    add header (held_octets octet from (position - from)) before
    ∙ ap (sum_of header) (
    ap (λ (xs : List ℕ). held_octets octet from (position - from) ++ xs) (sym (piece_held octet position part is))
    ∙ sym (parts_held octet from (position - from) (length part) (position + length part - from) position (omega (arith, lo)) (omega (arith, lo))))

pub sum_made : (octet : ℕ → Option Octet) (header : Mapping) (from position count : ℕ) (sum : MappingSum) (made : ℕ)
    → ((mapping : Mapping) (octets : List ℕ) → sum ≡ sum_of mapping octets → made ≡ dss_checksum mapping octets)
    → sum ≡ sum_of header (held_octets octet from (position - from)) → position ≤ from + count → from + count ≤ position
    → made ≡ dss_checksum header (held_octets octet from count)
sum_made octet header from position count sum made make is hi lo =
    let all : position - from ≡ count = omega (arith, hi, lo) in
    make header (held_octets octet from count) (is ∙ ap (λ (n : ℕ). sum_of header (held_octets octet from n)) all)

pub has_room : (octet : ℕ → Option Octet) (header : Mapping) (from position to : ℕ) (part : List ℕ) (sum : MappingSum)
    → sum ≡ sum_of header (held_octets octet from (position - from)) → from ≤ position → position < to → length part ≤ to - position → to < from + 2 ^ 16
    → sum.count + length part ≤ 65535
has_room octet header from position to part sum is lo hi few all =
    let count : sum.count ≡ position - from = ap (λ (s : MappingSum). s.count) is ∙ length_held octet from (position - from) in
    omega (arith, count, lo, hi, few, all)

held_at : (octet : ℕ → Option Octet) (from n p : ℕ) → all_held octet from n ≡ true → from ≤ p → p < from + n → is_some (octet p) ≡ true
held_at octet from zero p h lo hi = absurd (omega (arith, lo, hi))
held_at octet from (suc n) p h lo hi =
    by (cases_lt from p)
    (λ a. held_at octet (from + 1) n p (and_second (is_some (octet from)) (all_held octet (from + 1) n) h) (omega (arith, a)) (omega (arith, hi)))
  where
    by : (from < p) ⊎ (p ≤ from) → (from < p → is_some (octet p) ≡ true) → is_some (octet p) ≡ true
    by (inl a) later = later a
    by (inr a) later =
        let same : p ≡ from = omega (arith, lo, a) in
        ap (λ (x : ℕ). is_some (octet x)) same ∙ and_first (is_some (octet from)) (all_held octet (from + 1) n) h

-- a piece of what is held has an octet
pub goes_on : (octet : ℕ → Option Octet) (from count position : ℕ) (part : List ℕ) → all_held octet from count ≡ true → from ≤ position
    → position < from + count → (length part ≡ 0 → octet position ≡ None) → from + count - (position + length part) < from + count - position
goes_on octet from count position [] held lo hi none =
    absurd (true≢false (sym (held_at octet from count position held lo hi) ∙ ap is_some (none refl)))
goes_on octet from count position (first ∷ part) held lo hi none = omega (arith, hi)
