-- The linked increase as RFC 6356, section 3, has it, in exact fractions.
use Rattle.std.specs.Prelude.{ℕ, ◌*◌, List, [], ◌∷◌}
use Rattle.linked_increase.specs.declared.rows.Row.{Row}
use Rattle.linked_increase.specs.Fraction.{Fraction, whole, ratio, plus, times, over, greater, lesser}
use Rattle.linked_increase.specs.Paths.{total, rate, weight}

-- SUM (cwnd_i / rtt_i)
abbrev pub rate_sum : List Row → Fraction
rate_sum [] = whole 0
rate_sum (row ∷ rows) = plus (rate row) (rate_sum rows)

-- MAX (cwnd_i / rtt_i^2)
abbrev pub greatest_weight : List Row → Fraction
greatest_weight [] = whole 0
greatest_weight (row ∷ rows) = greater (weight row) (greatest_weight rows)

-- alpha = cwnd_total * MAX (cwnd_i / rtt_i^2) / SUM (cwnd_i / rtt_i)^2
unfoldable pub exact_alpha : List Row → Fraction
exact_alpha rows = over (times (whole (total rows)) (greatest_weight rows)) (times (rate_sum rows) (rate_sum rows))

-- what a connection of this path alone would add: bytes_acked * MSS_i / cwnd_i
abbrev pub increase_alone : Row → ℕ → ℕ → Fraction
increase_alone row mss acked = ratio (acked * mss) row.window

-- min (alpha * bytes_acked * MSS_i / cwnd_total, bytes_acked * MSS_i / cwnd_i)
unfoldable pub exact_increase : Row → List Row → ℕ → ℕ → Fraction
exact_increase row rows mss acked =
    lesser (over (times (exact_alpha rows) (whole (acked * mss))) (whole (total rows))) (increase_alone row mss acked)
