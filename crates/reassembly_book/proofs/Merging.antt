-- How many places bytes take.
use Rattle.std.proofs.Common.{◌≡◌, refl, ap, ℕ, zero, suc, ◌+◌, ◌<◌, ◌≤◌, Option, Some, None, List, [], ◌∷◌, length, map, arith}
use Rattle.reassembly_book.specs.State.{filled}
use Rattle.reassembly_book.specs.Steps.{by_place}

map-len : (bytes : List ℕ) → length (map Some bytes) ≡ length bytes
map-len [] = refl
map-len (byte ∷ bytes) = ap suc (map-len bytes)

pub by_place-len : (lead : ℕ) (bytes : List ℕ) → 0 < length bytes → length (by_place lead bytes) ≡ lead + length bytes
by_place-len lead [] some = absurd (omega (arith, some))
by_place-len zero (byte ∷ bytes) some = omega (arith, map-len bytes)
by_place-len (suc lead) (byte ∷ bytes) some = omega (arith, by_place-len lead (byte ∷ bytes) some)

pub filled-le : (places : List (Option ℕ)) → length (filled places) ≤ length places
filled-le [] = omega arith
filled-le (None ∷ places) = omega arith
filled-le (Some byte ∷ places) = omega (arith, filled-le places)

pub by_place-le : (lead : ℕ) (bytes : List ℕ) → length (by_place lead bytes) ≤ lead + length bytes
by_place-le lead [] = omega arith
by_place-le lead (byte ∷ bytes) = omega (arith, by_place-len lead (byte ∷ bytes) (omega arith))
