-- How far the form in integers is from RFC 6356's own formula.
use Rattle.std.specs.Prelude.{ℕ, ◌≡◌, ◌+◌, ◌*◌, ◌<◌, ◌≤◌, List, length, All, Some}
use Rattle.linked_increase.specs.declared.rows.Row.{Row}
use Rattle.linked_increase.specs.Fraction.{whole, ratio, plus, times, IsAtMost, IsBelow, floor_of}
use Rattle.linked_increase.specs.Paths.{IsInRange, total, leader, IsLeader}
use Rattle.linked_increase.specs.Exact.{rate_sum, exact_alpha, increase_alone, exact_increase}
use Rattle.linked_increase.specs.Scaled.{scaled_sum, alpha_of, growth_of}

-- some rows, each in range
pub record AreLinked (rows : List Row) : Type 0 where
  pub some : 0 < length rows
  pub in_range : All IsInRange rows

-- the row that is found to lead has the greatest weight, and of rows of that weight the lowest path
abbrev pub LeaderLeads : Type 0
LeaderLeads = (rows : List Row) (m : Row) → AreLinked rows → leader rows ≡ Some m → IsLeader m rows

-- the sum in integers is at most the exact sum times rtt_m, and less than one a row below it
pub record IsSumRoundedDown (m : Row) (rows : List Row) : Type 0 where
  pub at_most : IsAtMost (whole (scaled_sum m rows)) (times (rate_sum rows) (whole m.rtt))
  pub close : IsBelow (times (rate_sum rows) (whole m.rtt)) (whole (scaled_sum m rows + length rows))

-- for every row m the sum in integers is at most the exact sum times rtt_m, and less than one a row below it
abbrev pub SumRoundsDown : Type 0
SumRoundsDown = (m : Row) (rows : List Row) → AreLinked rows → IsSumRoundedDown m rows

-- alpha in integers is at least the exact one, scaled and rounded down
abbrev pub AlphaIsAtLeastExact : Type 0
AlphaIsAtLeastExact = (rows : List Row) → AreLinked rows
    → floor_of (times (whole 512) (exact_alpha rows)) ≤ alpha_of rows

-- the window grows by no more than that of a connection of this path alone
abbrev pub GrowsNoFasterThanAlone : Type 0
GrowsNoFasterThanAlone = (row : Row) (rows : List Row) (mss acked : ℕ)
    → growth_of row rows mss acked ≤ floor_of (increase_alone row mss acked)

-- the exact increase is less than an octet and acked * mss / (512 * total) above the growth
abbrev pub GrowsAsFastAsExact : Type 0
GrowsAsFastAsExact = (row : Row) (rows : List Row) (mss acked : ℕ) → AreLinked rows → IsInRange row
    → IsBelow (exact_increase row rows mss acked)
    (plus (whole (growth_of row rows mss acked + 1)) (ratio (acked * mss) (512 * total rows)))
