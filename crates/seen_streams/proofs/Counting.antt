-- Positions that were seen and have no place, stretch by stretch.
use Rattle.std.proofs.Common.{◌≡◌, refl, ap, ◌∙◌, ℕ, zero, suc, ◌+◌, ◌-◌, ◌<◌, ◌≤◌, Bool, true, false, ◌&&◌, is_none, if◌then◌else◌, Option, Some, None, option_map, arith}
use Rattle.seen_octets.specs.declared.places.Stretch.{Stretch}
use Rattle.seen_octets.specs.Places.{IsStretch}
use Rattle.seen_streams.specs.declared.places.PlacedStretch.{PlacedStretch}
use Rattle.seen_streams.specs.State.{LaneValue, place_of}
use Rattle.seen_streams.specs.Ends.{unmapped}
use Rattle.seen_streams.specs.Placing.{IsPlaced}

alike : (lane : LaneValue) (seen none : Bool) (p n : ℕ) → ((q : ℕ) → p ≤ q → q < p + n → lane.seen q ≡ seen)
    → ((q : ℕ) → p ≤ q → q < p + n → is_none (place_of lane q) ≡ none) → unmapped lane p n ≡ (if seen && none then n else 0)
alike lane seen none p zero s o = by (seen && none)
  where
    by : (b : Bool) → ◌≡◌ {A = ℕ} 0 (if b then 0 else 0)
    by true = refl
    by false = refl
alike lane seen none p (suc n) s o =
    ap (λ (b : Bool). (if b && is_none (place_of lane p) then 1 else 0) + unmapped lane (p + 1) n) (s p (omega arith) (omega arith))
    ∙ ap (λ (b : Bool). (if seen && b then 1 else 0) + unmapped lane (p + 1) n) (o p (omega arith) (omega arith))
    ∙ ap (λ (m : ℕ). (if seen && none then 1 else 0) + m)
    (alike lane seen none (p + 1) n (λ q lo hi. s q (omega (arith, lo)) (omega (arith, hi))) (λ q lo hi. o q (omega (arith, lo)) (omega (arith, hi))))
    ∙ by (seen && none)
  where
    by : (b : Bool) → (if b then 1 else 0) + (if b then n else 0) ≡ (if b then suc n else 0)
    by true = omega arith
    by false = refl

module _ (lane : LaneValue) (from to : ℕ) (seen : Stretch) (placed : PlacedStretch) (is_seen : IsStretch lane.seen from to seen)
    (is_placed : IsPlaced (place_of lane) from seen.end placed) where
  none_of : (o : Option ℕ) (k : ℕ) → is_none (option_map (λ q. q + k) o) ≡ is_none o
  none_of None k = refl
  none_of (Some q) k = refl

  pub counted : unmapped lane from (placed.end - from) ≡ (if seen.marked && is_none placed.place then placed.end - from else 0)
  counted =
      alike lane seen.marked (is_none placed.place) from (placed.end - from)
      (λ q lo hi. is_seen.alike q lo (omega (arith, hi, is_placed.some, is_placed.within)))
      (λ q lo hi. ap is_none (is_placed.alike q lo (omega (arith, hi, is_placed.some))) ∙ none_of placed.place (q - from))

-- part after part
parts : (lane : LaneValue) (p m n all next : ℕ) → all ≡ m + n → next ≡ p + m → unmapped lane p all ≡ unmapped lane p m + unmapped lane next n
parts lane p zero n all next e f =
    let a : all ≡ n = omega (arith, e) in
    let b : p ≡ next = omega (arith, f) in
    let same : unmapped lane p all ≡ unmapped lane next n = ap (unmapped lane p) a ∙ ap (λ (x : ℕ). unmapped lane x n) b in
    omega (arith, same)
parts lane p (suc m) n all next e f =
    let a : all ≡ suc (m + n) = omega (arith, e) in
    let rest = parts lane (p + 1) m n (m + n) next refl (omega (arith, f)) in
    ap (unmapped lane p) a
    ∙ (let same : (if lane.seen p && is_none (place_of lane p) then 1 else 0) + unmapped lane (p + 1) (m + n)
    ≡ (if lane.seen p && is_none (place_of lane p) then 1 else 0) + unmapped lane (p + 1) m + unmapped lane next n = omega (arith, rest) in same)

pub counted_on : (lane : LaneValue) (position end top count more : ℕ) → position < end → end ≤ top → more ≡ unmapped lane position (end - position)
    → count + unmapped lane position (top - position) ≡ unmapped lane 1 (top - 1)
    → count + more + unmapped lane end (top - end) ≡ unmapped lane 1 (top - 1)
counted_on lane position end top count more some within is before =
    let two = parts lane position (end - position) (top - end) (top - position) end (omega (arith, some, within)) (omega (arith, some)) in
    omega (arith, is, before, two)

pub counted_up : (lane : LaneValue) (position top count : ℕ) → top ≤ position
    → count + unmapped lane position (top - position) ≡ unmapped lane 1 (top - 1) → count ≡ unmapped lane 1 (top - 1)
counted_up lane position top count h is =
    let none : top - position ≡ 0 = omega (arith, h) in
    let left : unmapped lane position (top - position) ≡ 0 = ap (unmapped lane position) none in
    omega (arith, is, left)
