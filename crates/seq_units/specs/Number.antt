-- The numbers of positions: a field of 32 or 64 bits carries a position modulo the size of its number space
-- (RFC 9293, section 3.4; RFC 8684, section 3.3.1). A space is its size, 2 ^ 32 or 2 ^ 64.
use Rattle.std.specs.Prelude.{◌≡◌, ℕ, ◌+◌, ◌-◌, ◌/◌, ◌%◌, nat_lt, if◌then◌else◌, Option, Some, None, option_and_then}
use Rattle.std.specs.Prelude.{ℤ, pos, neg_ℤ, ◌+ℤ◌, ◌-ℤ◌, ◌≤ℤ◌, ◌<ℤ◌}
use Rattle.std.specs.Int.{int_rem_euclid}

-- the number of the position p, counted from base
abbrev pub number_of : ℕ → ℕ → ℕ → ℕ
number_of space base p = (base + p) % space

-- the number of a position that may lie before the start: base + p modulo the space
abbrev pub HasNumber : ℕ → ℕ → ℤ → ℕ → Type 0
HasNumber space base p number = int_rem_euclid (pos base +ℤ p) (pos space) ≡ pos number

-- a distance is in the window round 0: at least minus half the space, and below half of it
pub record IsNear (space : ℕ) (distance : ℤ) : Type 0 where
  pub behind : neg_ℤ (pos (space / 2)) ≤ℤ distance
  pub ahead : distance <ℤ pos (space / 2)

-- a number means, beside an expected position, the position p: p has that number, and is near
pub record IsMeant (space base expected number : ℕ) (p : ℤ) : Type 0 where
  pub numbered : HasNumber space base p number
  pub near : IsNear space (p -ℤ pos expected)

-- how many numbers on from that of the expected position a number is
abbrev pub numbers_ahead : ℕ → ℕ → ℕ → ℕ → ℕ
numbers_ahead space base expected number = (number + (space - number_of space base expected)) % space

-- the position that a number means beside an expected one, if it is not below 0
unfoldable pub position_near : ℕ → ℕ → ℕ → ℕ → Option ℕ
position_near space base expected number =
    let on = expected + numbers_ahead space base expected number in
    if nat_lt (numbers_ahead space base expected number) (space / 2) then Some on
    else (if nat_lt on space then None else Some (on - space))

-- the position, if it is below a limit
abbrev pub below : ℕ → Option ℕ → Option ℕ
below limit p = option_and_then (λ q. if nat_lt q limit then Some q else None) p
