-- Positions on the line of an infinite mapping, and before it.
use Rattle.std.proofs.Common.{◌≡◌, refl, ap, ◌∙◌, sym, ℕ, ℤ, pos, negsuc, neg_ℤ, suc, ltb, ◌+◌, ◌-◌, ◌%◌, ◌^◌, ◌<◌, ◌≤◌, ◌+ℤ◌, ◌-ℤ◌, ◌<ℤ◌, ◌≤ℤ◌, min, Bool, true, false, not, nat_le, nat_lt, int_lt, if◌then◌else◌, Option, Some, None, option_map, IfSome, arith}
use mir.Val.{sel}
use Rattle.std.proofs.lemmas.Bool.Decides.{nat_tests}
use Rattle.std.proofs.lemmas.Int.{ints}
use Rattle.std.proofs.lemmas.Nat.{mod_below}
use Rattle.std.proofs.lemmas.Option.{same_Some}
use Rattle.std.specs.Int.{w32, cast_signed}
use Rattle.seq_units.specs.Number.{below, position_near as number_near}
use Rattle.mptcp_options.specs.declared.dss.DataNumber.{DataNumber}
use Rattle.mptcp_options.specs.declared.dss.DataNumber.TheVariants as wire
use Rattle.seen_octets.specs.declared.places.Stretch.{Stretch}
use Rattle.seen_octets.specs.Places.{IsStretch}
use Rattle.judge_rules.specs.declared.mappings.Line.{Line}
use Rattle.judge_rules.specs.Numbers.{place_near}
use Rattle.judge_rules.specs.Mappings.{natural, place_on_line, position_near}
use Rattle.seen_streams.specs.declared.places.PlacedStretch.{PlacedStretch}
use Rattle.seen_streams.specs.Placing.{IsPlaced}

natural_is : (z : ℤ) → pos 0 ≤ℤ z → z ≡ pos (natural z)
natural_is (pos n) h = refl
natural_is (negsuc n) h = absurd (omega (arith, ints, h))

not_before : (x y : ℤ) → int_lt x y ≡ false → y ≤ℤ x
not_before x y h = grind (arith, ints, h)

is_before : (x y : ℤ) → int_lt x y ≡ true → x <ℤ y
is_before x y h = grind (arith, ints, h)

-- ---- the position that a relative number means

low_of : (position n : ℕ) → neg_ℤ (pos (2 ^ 62)) ≤ℤ (pos position +ℤ cast_signed w32 n)
low_of position n = by (ltb n (2 ^ 31))
  where
    by : (b : Bool) → neg_ℤ (pos (2 ^ 62)) ≤ℤ (pos position +ℤ sel b (pos n) (negsuc (2 ^ 32 - suc n)))
    by true = omega (arith, ints)
    by false = omega (arith, ints)

high_of : (position n : ℕ) → position ≤ 2 ^ 61 → n < 2 ^ 32 → (pos position +ℤ cast_signed w32 n) <ℤ pos (2 ^ 62)
high_of position n h few = by (ltb n (2 ^ 31))
  where
    by : (b : Bool) → (pos position +ℤ sel b (pos n) (negsuc (2 ^ 32 - suc n))) <ℤ pos (2 ^ 62)
    by true = omega (arith, ints, h, few)
    by false = omega (arith, ints, h)

pub near_low : (position relative : ℕ) (near : ℤ) → near ≡ position_near position relative → neg_ℤ (pos (2 ^ 62)) ≤ℤ near
near_low position relative near is = rw is (low_of position ((relative + (2 ^ 32 - position % 2 ^ 32)) % 2 ^ 32))

pub near_high : (position relative : ℕ) (near : ℤ) → position ≤ 2 ^ 61 → near ≡ position_near position relative → near <ℤ pos (2 ^ 62)
near_high position relative near h is =
    rw is (high_of position ((relative + (2 ^ 32 - position % 2 ^ 32)) % 2 ^ 32) h (mod_below (relative + (2 ^ 32 - position % 2 ^ 32)) (2 ^ 32) (omega arith)))

-- ---- places are below 2^62

below_few : (o r : Option ℕ) → r ≡ below (2 ^ 62) o → IfSome r (λ p. p < 2 ^ 62)
below_few None r is = rw is tt
below_few (Some q) r is = by (nat_lt q (2 ^ 62)) refl is
  where
    by : (b : Bool) → nat_lt q (2 ^ 62) ≡ b → r ≡ (if b then Some q else None) → IfSome r (λ p. p < 2 ^ 62)
    by true e is = rw is (let lt : q < 2 ^ 62 = grind (arith, nat_tests, e) in lt)
    by false e is = rw is tt

pub near_few : (first top : ℕ) (number : DataNumber) (r : Option ℕ) → r ≡ place_near first top number → IfSome r (λ p. p < 2 ^ 62)
near_few first top (wire.Whole number) r is = below_few (number_near (2 ^ 64) first top number) r is
near_few first top (wire.Low number) r is = below_few (number_near (2 ^ 32) (first % 2 ^ 32) top number) r is

-- ---- places

on_line : (line : Line) (p d : ℕ) → pos p ≡ line.position +ℤ pos d → place_on_line line p ≡ Some (line.place + d)
on_line line p d h =
    let behind : int_lt (pos p) line.position ≡ false = grind (arith, ints, h) in
    let far : pos p -ℤ line.position ≡ pos d = omega (arith, ints, h) in
    ap (λ b. if b then None else Some (line.place + natural (pos p -ℤ line.position))) behind
    ∙ ap (λ (z : ℤ). Some (line.place + natural z)) far

goes_on : (line : Line) (from p q : ℕ) → place_on_line line from ≡ Some q → from ≤ p → place_on_line line p ≡ Some (q + (p - from))
goes_on line from p q there h = by (int_lt (pos from) line.position) refl there
  where
    by : (b : Bool) → int_lt (pos from) line.position ≡ b
        → (if b then None else Some (line.place + natural (pos from -ℤ line.position))) ≡ Some q → place_on_line line p ≡ Some (q + (p - from))
    by true e is = cc
    by false e is =
        let d = natural (pos from -ℤ line.position) in
        let behind : line.position ≤ℤ pos from = not_before (pos from) line.position e in
        let far : pos from -ℤ line.position ≡ pos d = natural_is (pos from -ℤ line.position) (omega (arith, ints, behind)) in
        let place : line.place + d ≡ q = same_Some (line.place + d) q is in
        let all : line.place + (d + (p - from)) ≡ q + (p - from) = omega (arith, place) in
        on_line line p (d + (p - from)) (omega (arith, ints, far, h)) ∙ ap Some all

before : (line : Line) (p : ℕ) → pos p <ℤ line.position → place_on_line line p ≡ None
before line p h =
    let early : int_lt (pos p) line.position ≡ true = grind (arith, ints, h) in
    ap (λ b. if b then None else Some (line.place + natural (pos p -ℤ line.position))) early

below_natural : (z : ℤ) (p : ℕ) → p < natural z → pos p <ℤ z
below_natural (pos n) p h = omega (arith, ints, h)
below_natural (negsuc n) p h = absurd (omega (arith, h))

natural_above : (z : ℤ) (p : ℕ) → pos p <ℤ z → p < natural z
natural_above (pos n) p h = omega (arith, ints, h)
natural_above (negsuc n) p h = absurd (omega (arith, ints, h))

pub placed_on : (line : Line) (from to q : ℕ) (stretch : PlacedStretch) → from < to → place_on_line line from ≡ Some q
    → stretch.end ≡ to → stretch.place ≡ Some q → q + (to - from) < 2 ^ 64 → IsPlaced (place_on_line line) from to stretch
placed_on line from to q stretch some there end place few = record {
  some = omega (arith, some, end);
  within = omega (arith, end);
  few = rw place (omega (arith, few, end));
  alike = λ p lo hi. goes_on line from p q there lo ∙ sym (ap (option_map (λ x. x + (p - from))) place);
}

pub placed_before : (line : Line) (from to : ℕ) (stretch : PlacedStretch) → from < to → place_on_line line from ≡ None
    → stretch.end ≡ min to (natural line.position) → stretch.place ≡ None → IsPlaced (place_on_line line) from to stretch
placed_before line from to stretch some there end place = by (int_lt (pos from) line.position) refl there
  where
    by : (b : Bool) → int_lt (pos from) line.position ≡ b
        → (if b then None else Some (line.place + natural (pos from -ℤ line.position))) ≡ None → IsPlaced (place_on_line line) from to stretch
    by false e is = cc
    by true e is =
        let here : from < natural line.position = natural_above line.position from (is_before (pos from) line.position e) in
        record {
          some = omega (arith, some, end, here);
          within = omega (arith, end);
          few = rw place tt;
          alike = λ p lo hi. before line p (below_natural line.position p (omega (arith, hi, end))) ∙ sym (ap (option_map (λ x. x + (p - from))) place);
        }

-- ---- which positions aren't before one

pub not_begun : (begin : ℤ) (from to : ℕ) (stretch : Stretch) → from < to → from < natural begin → stretch.end ≡ min to (natural begin) → stretch.marked ≡ false
    → IsStretch (λ p. not (int_lt (pos p) begin)) from to stretch
not_begun begin from to stretch some early end marked = record {
  some = omega (arith, some, early, end);
  within = omega (arith, end);
  alike = λ p lo hi.
      ap not (let lt : int_lt (pos p) begin ≡ true = grind (arith, ints, below_natural begin p (omega (arith, hi, end))) in lt) ∙ sym marked;
}

pub has_begun : (begin : ℤ) (from to : ℕ) (stretch : Stretch) → from < to → natural begin ≤ from → stretch.end ≡ to → stretch.marked ≡ true
    → IsStretch (λ p. not (int_lt (pos p) begin)) from to stretch
has_begun begin from to stretch some late end marked = record {
  some = omega (arith, some, end);
  within = omega (arith, end);
  alike = λ p lo hi. ap not (behind begin p (omega (arith, late, lo))) ∙ sym marked;
}
  where
    behind : (z : ℤ) (p : ℕ) → natural z ≤ p → int_lt (pos p) z ≡ false
    behind (pos n) p h = grind (arith, nat_tests, h)
    behind (negsuc n) p h = refl

-- ---- a position whose payload ends within the limit
pub is_within : (position len : ℕ) → position ≤ 2 ^ 61 - len → len ≤ 2 ^ 61 → Some position ≡ (if nat_le (position + len) (2 ^ 61) then Some position else None)
is_within position len h k =
    let least : nat_le (position + len) (2 ^ 61) ≡ true = grind (arith, nat_tests, h, k) in
    sym (ap (λ b. if b then Some position else None) least)

pub is_beyond : (position len : ℕ) → 2 ^ 61 < position + len → None ≡ (if nat_le (position + len) (2 ^ 61) then Some position else None)
is_beyond position len h =
    let more : nat_le (position + len) (2 ^ 61) ≡ false = grind (arith, nat_tests, h) in
    sym (ap (λ b. if b then Some position else None) more)
