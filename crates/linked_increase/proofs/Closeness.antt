-- The growth in integers against the exact increase.
use Rattle.std.proofs.Common.{◌≡◌, ℕ, ◌+◌, ◌*◌, ◌/◌, ◌<◌, ◌≤◌, ◌⊎◌, inl, inr, ⊎_elim, min, List, arith}
use Rattle.std.proofs.lemmas.Bool.{cases_lt}
use Rattle.std.proofs.Math.Nat.{mul-pos, mul-le-mul_left, mul-le-mul_right, mul-lt-mul_of_pos_right, lt_of_mul-lt-mul_right, lt-div-mul-add, min-eq_left, min-eq_right}
use Rattle.linked_increase.specs.declared.rows.Row.{Row}
use Rattle.linked_increase.specs.Fraction.{Fraction, whole, ratio, plus, times, over, lesser, IsBelow}
use Rattle.linked_increase.specs.Paths.{IsInRange, total}
use Rattle.linked_increase.specs.Exact.{exact_alpha, exact_increase, increase_alone}
use Rattle.linked_increase.specs.Scaled.{alpha_of, growth_of}
use Rattle.linked_increase.specs.Laws.{AreLinked}
use Rattle.linked_increase.proofs.Fractions.{lesser_positive, lesser-le_first, lesser-le_second}
use Rattle.linked_increase.proofs.Sums.{total_some}
use Rattle.linked_increase.proofs.Exactness.{led, exact_alpha_positive, alpha_is_at_least_exact}

-- n / d is at most b / w, and that less than an octet above g
close_to_alone : (n d b w g k : ℕ) → 0 < w → 0 < d → 0 < k → n * w ≤ b * d → b < g * w + w
    → n * k < ((g + 1) * k + b) * d
close_to_alone n d b w g k some_w some_d some_k below rounded =
    let first = mul-le-mul_right k below in
    let second = mul-lt-mul_of_pos_right {k = d * k} rounded (mul-pos some_d some_k) in
    let cancelled : n * k < (g + 1) * (k * d) = lt_of_mul-lt-mul_right w (omega (arith, first, second)) in
    omega (arith, cancelled)

-- n / d is at most alpha * b / t, which alpha scaled to a and rounded down keeps
close_to_linked : (n d b t g a p q : ℕ) → 0 < q → 0 < d → n * (q * t) ≤ p * b * d → 512 * p < (a + 1) * q
    → a * b < g * (t * 512) + t * 512 → n * (512 * t) < ((g + 1) * (512 * t) + b) * d
close_to_linked n d b t g a p q some_q some_d below scaled rounded =
    let first = mul-le-mul_left 512 below in
    let second = mul-lt-mul_of_pos_right {k = q * d} rounded (mul-pos some_q some_d) in
    let third = mul-le-mul_right (b * d) scaled in
    lt_of_mul-lt-mul_right q (omega (arith, first, second, third))

min_cases : (x y : ℕ) → (min x y ≡ x) ⊎ (min x y ≡ y)
min_cases x y = ⊎_elim (λ below. inl (min-eq_left (omega arith))) (λ above. inr (min-eq_right above)) (cases_lt x y)

scaled_alpha : (rows : List Row) → AreLinked rows
    → 512 * (exact_alpha rows).numerator < (alpha_of rows + 1) * (exact_alpha rows).denominator
scaled_alpha rows linked =
    let some = exact_alpha_positive rows linked in
    let floor = alpha_is_at_least_exact rows linked in
    let above = lt-div-mul-add {a = 512 * (exact_alpha rows).numerator} {b = 1 * (exact_alpha rows).denominator} (omega arith) in
    let more = mul-le-mul_right (1 * (exact_alpha rows).denominator) floor in
    omega (arith, above, more)

pub growth_is_as_fast_as_exact : (row : Row) (rows : List Row) (mss acked : ℕ) → AreLinked rows → IsInRange row
    → IsBelow (exact_increase row rows mss acked)
    (plus (whole (growth_of row rows mss acked + 1)) (ratio (acked * mss) (512 * total rows)))
unfolding exact_increase growth_of
growth_is_as_fast_as_exact row rows mss acked linked r =
    let octets : ℕ = acked * mss in
    let exact : Fraction = exact_alpha rows in
    let linked_part : Fraction = over (times exact (whole octets)) (whole (total rows)) in
    let alone : Fraction = increase_alone row mss acked in
    let least : Fraction = lesser linked_part alone in
    let lead = led rows linked.some in
    let some_total = total_some lead.m rows linked.in_range lead.leads in
    let some_exact = exact_alpha_positive rows linked in
    let some_least : 0 < least.denominator = lesser_positive linked_part alone (mul-pos (omega arith) some_total) r.some_window in
    let divisor : 0 < total rows * 512 = omega (arith, some_total) in
    ⊎_elim
    (λ is. rw is
    (let close = close_to_linked least.numerator least.denominator octets (total rows)
    (alpha_of rows * octets / (total rows * 512)) (alpha_of rows) exact.numerator exact.denominator
    some_exact some_least (omega (arith, lesser-le_first linked_part alone)) (scaled_alpha rows linked)
    (lt-div-mul-add divisor) in
    omega (arith, close)))
    (λ is. rw is
    (let close = close_to_alone least.numerator least.denominator octets row.window (octets / row.window)
    (512 * total rows) r.some_window some_least (omega (arith, some_total))
    (lesser-le_second linked_part alone) (lt-div-mul-add r.some_window) in
    omega (arith, close)))
    (min_cases (alpha_of rows * octets / (total rows * 512)) (octets / row.window))
