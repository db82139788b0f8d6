-- Which octets of a payload are held: all of them, where it is whole.
use Rattle.std.proofs.Common.{◌≡◌, refl, ap, ◌∙◌, ℕ, zero, suc, ◌&&◌, ◌||◌, ◌+◌, ◌-◌, ◌<◌, ◌≤◌, nat_le, nat_lt, max, Bool, true, false, if◌then◌else◌, Option, Some, None, is_some, List, [], length, take, drop, arith}
use Rattle.std.specs.Prelude.{get_or}
use Rattle.std.specs.Option.{option_or}
use Rattle.std.proofs.lemmas.Bool.{and_parts, false≢true, leb-true, lt-ltb, ltb-true}
use Rattle.std.proofs.lemmas.List.{get_or-drop, get_or-take, length-drop, length-take}
use Rattle.seen_octets.specs.Octets.{has_place}
use Rattle.seen_octets.specs.declared.octet.Octet.{Octet}

pub none_left : (n : ℕ) → (let none : List ℕ = [] in drop n none ≡ none)
none_left zero = refl
none_left (suc n) = refl

-- the octets of a part are those of the whole
pub part_is : (skip n : ℕ) (octets : List ℕ) (j : ℕ) → j < length (drop skip (take n octets))
    → (skip + j < length octets) × (get_or (drop skip (take n octets)) j 0 ≡ get_or octets (skip + j) 0)
part_is skip n octets j below =
    let left = length-drop skip (take n octets) in
    let taken = length-take n octets in
    (omega (arith, below, left, taken), get_or-drop skip (take n octets) j 0 ∙ get_or-take n octets (skip + j) 0 (omega (arith, below, left, taken)))

-- where something was, or comes, something is
pub stays_held : (was : Option Octet) (seen now : Bool) (new : Octet) → (seen ≡ true → is_some was ≡ true) → seen || now ≡ true
    → is_some (option_or was (if now then Some new else None)) ≡ true
stays_held (Some was) seen now new has is = refl
stays_held None seen true new has is = refl
stays_held None true false new has is = absurd (false≢true (has refl))
stays_held None false false new has is = absurd (false≢true is)

-- of a payload at a position, whose octets from position 1 on are looked at, and none of a RST
module _ (rst : Bool) (len position : ℕ) (octets : List ℕ) (whole : len ≡ length octets) where
  abbrev count : ℕ
  count = if rst then 0 else len

  abbrev held : List ℕ
  held = drop (max position 1 - position) (take count octets)

  -- each is held
  pub held_all : (p : ℕ) → max position 1 ≤ p → p < max (max position 1) (position + count) → p - max position 1 < length held
  held_all p low high =
      let left = length-drop (max position 1 - position) (take count octets) in
      let taken = length-take count octets in
      let few = upto rst in
      omega (arith, left, taken, few, low, high)
    where
      upto : (b : Bool) → (if b then 0 else len) ≤ length octets
      upto true = omega arith
      upto false = omega (arith, whole)

  pub has_all : (p : ℕ) → (nat_le (max position 1) p && nat_lt p (max (max position 1) (position + count))) ≡ true → has_place (max position 1) held p ≡ true
  has_all p is =
      let both = and_parts (nat_le (max position 1) p) (nat_lt p (max (max position 1) (position + count))) is in
      let low = leb-true (max position 1) p both.0 in
      let all = held_all p low (ltb-true p (max (max position 1) (position + count)) both.1) in
      ap (λ (b : Bool). b && nat_lt p (max position 1 + length held)) both.0 ∙ lt-ltb p (max position 1 + length held) (omega (arith, low, all))
