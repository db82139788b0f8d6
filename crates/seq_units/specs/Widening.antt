-- What the low half of a data number means beside an expected one (RFC 8684, section 3.3.1).
use Rattle.std.specs.Prelude.{◌≡◌, ℕ, ◌+◌, ◌-◌, ◌%◌, ◌^◌, nat_lt, if◌then◌else◌, ℤ}
use Rattle.seq_units.specs.Number.{HasNumber, IsNear, numbers_ahead}

-- wide has that low half, and is the number at a near distance on from the expected one, modulo 2 ^ 64
pub record IsWidened (expected low wide : ℕ) : Type 0 where
  pub low_half : wide % 2 ^ 32 ≡ low
  pub near : (distance : ℤ) × IsNear (2 ^ 32) distance × HasNumber (2 ^ 64) expected distance wide

-- the number of 64 bits that a low half means beside an expected one
unfoldable pub widened : ℕ → ℕ → ℕ
widened expected low =
    let ahead = numbers_ahead (2 ^ 32) expected 0 low in
    if nat_lt ahead (2 ^ 31) then (expected + ahead) % 2 ^ 64
    else (expected + ahead + (2 ^ 64 - 2 ^ 32)) % 2 ^ 64
