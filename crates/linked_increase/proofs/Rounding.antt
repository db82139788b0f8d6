-- The sum in integers against the exact one, row by row.
use Rattle.std.proofs.Common.{ℕ, suc, ◌+◌, ◌*◌, ◌/◌, ◌<◌, ◌≤◌, length, List, [], ◌∷◌, lit<, arith}
use Rattle.std.proofs.lemmas.List.Elements.{All-head, All-tail}
use Rattle.std.proofs.lemmas.List.Sums.{sum_by-cons}
use Rattle.std.proofs.Math.Nat.{mul-pos, mul-le-mul_right, mul-lt-mul_of_pos_right, div-mul-le_self, lt-div-mul-add}
use Rattle.std.specs.Prelude.{All}
use Rattle.linked_increase.specs.declared.rows.Row.{Row}
use Rattle.linked_increase.specs.Paths.{IsInRange}
use Rattle.linked_increase.specs.Exact.{rate_sum}
use Rattle.linked_increase.specs.Scaled.{scaled_sum}
use Rattle.linked_increase.specs.Laws.{AreLinked, IsSumRoundedDown}

-- one more row: n / d and s for the others, w / r and q = floor (t * w / r) for this one
at_most_more : (q r d w t s n : ℕ) → q * r ≤ t * w → s * d ≤ n * t → (q + s) * (r * d) ≤ (w * d + n * r) * t
at_most_more q r d w t s n own others =
    let first = mul-le-mul_right d own in
    let second = mul-le-mul_right r others in
    omega (arith, first, second)

close_more : (q r d w t s n k : ℕ) → 0 < d → t * w < q * r + r → n * t ≤ (s + k) * d
    → (w * d + n * r) * t < (q + s + suc k) * (r * d)
close_more q r d w t s n k some own others =
    let first = mul-lt-mul_of_pos_right own some in
    let second = mul-le-mul_right r others in
    omega (arith, first, second)

-- the exact sum between the one in integers and that and the number of rows, multiplied crosswise
pub record IsBetween (m : Row) (rows : List Row) : Type 0 where
  pub some : 0 < (rate_sum rows).denominator
  pub at_most : scaled_sum m rows * (rate_sum rows).denominator ≤ (rate_sum rows).numerator * m.rtt
  pub close : (rate_sum rows).numerator * m.rtt ≤ (scaled_sum m rows + length rows) * (rate_sum rows).denominator

step_close : (m row : Row) (rows : List Row) → IsInRange row → IsBetween m rows
    → (rate_sum (row ∷ rows)).numerator * m.rtt
    < (scaled_sum m (row ∷ rows) + length (row ∷ rows)) * (rate_sum (row ∷ rows)).denominator
step_close m row rows r others =
    rw sum_by-cons
    (close_more (m.rtt * row.window / row.rtt) row.rtt (rate_sum rows).denominator row.window m.rtt (scaled_sum m rows)
    (rate_sum rows).numerator (length rows) others.some (lt-div-mul-add r.some_rtt) others.close)

step_at_most : (m row : Row) (rows : List Row) → IsBetween m rows
    → scaled_sum m (row ∷ rows) * (rate_sum (row ∷ rows)).denominator ≤ (rate_sum (row ∷ rows)).numerator * m.rtt
step_at_most m row rows others =
    rw sum_by-cons
    (at_most_more (m.rtt * row.window / row.rtt) row.rtt (rate_sum rows).denominator row.window m.rtt (scaled_sum m rows)
    (rate_sum rows).numerator (div-mul-le_self (m.rtt * row.window) row.rtt) others.at_most)

pub between : (m : Row) (rows : List Row) → All IsInRange rows → IsBetween m rows
between m [] ranges = record { some = lit< tt; at_most = omega arith; close = omega arith }
between m (row ∷ rows) ranges =
    let r = All-head IsInRange row rows ranges in
    let others = between m rows (All-tail IsInRange row rows ranges) in
    record {
      some = mul-pos r.some_rtt others.some;
      at_most = step_at_most m row rows others;
      close = omega (arith, step_close m row rows r others);
    }

strictly : (m : Row) (rows : List Row) → AreLinked rows
    → (rate_sum rows).numerator * m.rtt < (scaled_sum m rows + length rows) * (rate_sum rows).denominator
strictly m [] linked = absurd (omega (arith, linked.some))
strictly m (row ∷ rows) linked =
    step_close m row rows (All-head IsInRange row rows linked.in_range)
    (between m rows (All-tail IsInRange row rows linked.in_range))

pub sum_rounds_down : (m : Row) (rows : List Row) → AreLinked rows → IsSumRoundedDown m rows
sum_rounds_down m rows linked =
    let both = between m rows linked.in_range in
    record { at_most = omega (arith, both.at_most); close = omega (arith, strictly m rows linked) }
