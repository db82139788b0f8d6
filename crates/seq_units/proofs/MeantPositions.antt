-- Beside an expected position each number means a position: as many numbers on as it is ahead, or one whole
-- number space before that.
use Rattle.std.proofs.Common.{◌+◌, ◌<◌, ◌≤◌, ◌^◌, ℕ, pos, ◌-ℤ◌, inl, inr, arith}
use Rattle.std.proofs.lemmas.Bool.{cases_lt}
use Rattle.std.proofs.lemmas.Int.{ints}
use Rattle.seq_units.specs.Number.{IsMeant, numbers_ahead}
use Rattle.seq_units.specs.Laws.{EachNumberMeansAPosition}

abbrev ahead : ℕ → ℕ → ℕ → ℕ → ℕ
ahead space base expected number = expected + numbers_ahead space base expected number

module _ (base expected number : ℕ) where
  IsMeant-ahead_32 : number < 2 ^ 32 → numbers_ahead (2 ^ 32) base expected number < 2 ^ 31
      → IsMeant (2 ^ 32) base expected number (pos (ahead (2 ^ 32) base expected number))
  IsMeant-ahead_32 fits near = grind (arith, ints)

  IsMeant-behind_32 : number < 2 ^ 32 → 2 ^ 31 ≤ numbers_ahead (2 ^ 32) base expected number
      → IsMeant (2 ^ 32) base expected number (pos (ahead (2 ^ 32) base expected number) -ℤ pos (2 ^ 32))
  IsMeant-behind_32 fits far = grind (arith, ints)

  IsMeant-ahead_64 : number < 2 ^ 64 → numbers_ahead (2 ^ 64) base expected number < 2 ^ 63
      → IsMeant (2 ^ 64) base expected number (pos (ahead (2 ^ 64) base expected number))
  IsMeant-ahead_64 fits near = grind (arith, ints)

  IsMeant-behind_64 : number < 2 ^ 64 → 2 ^ 63 ≤ numbers_ahead (2 ^ 64) base expected number
      → IsMeant (2 ^ 64) base expected number (pos (ahead (2 ^ 64) base expected number) -ℤ pos (2 ^ 64))
  IsMeant-behind_64 fits far = grind (arith, ints)

pub a_position_32 : EachNumberMeansAPosition (2 ^ 32)
a_position_32 base expected number fits =
    elim (cases_lt (numbers_ahead (2 ^ 32) base expected number) (2 ^ 31)) [
      | inl near ↦ (_, IsMeant-ahead_32 base expected number fits near)
      | inr far ↦ (_, IsMeant-behind_32 base expected number fits far)
    ]

pub a_position_64 : EachNumberMeansAPosition (2 ^ 64)
a_position_64 base expected number fits =
    elim (cases_lt (numbers_ahead (2 ^ 64) base expected number) (2 ^ 63)) [
      | inl near ↦ (_, IsMeant-ahead_64 base expected number fits near)
      | inr far ↦ (_, IsMeant-behind_64 base expected number fits far)
    ]
