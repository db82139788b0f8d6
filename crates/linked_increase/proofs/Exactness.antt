-- alpha in integers against the exact one.
use Rattle.std.proofs.Common.{◌≡◌, ℕ, zero, suc, ◌*◌, ◌<◌, ◌≤◌, length, List, [], ◌∷◌, Some, refl, lit<, arith}
use Rattle.std.proofs.lemmas.List.Elements.{All-head, All-tail}
use Rattle.std.proofs.Math.Nat.{mul-pos, mul-le-mul, mul-le-mul_left}
use Rattle.std.specs.Prelude.{All, fold}
use Rattle.linked_increase.specs.declared.rows.Row.{Row}
use Rattle.linked_increase.specs.Fraction.{Fraction, whole, ratio, times, IsAtMost, floor_of}
use Rattle.linked_increase.specs.Paths.{IsInRange, total, weight, leading, leader}
use Rattle.linked_increase.specs.Exact.{rate_sum, greatest_weight, exact_alpha}
use Rattle.linked_increase.specs.Scaled.{scaled_sum, alpha_of}
use Rattle.linked_increase.specs.Laws.{AreLinked}
use Rattle.linked_increase.proofs.Fractions.{floor_of-le, greater-le, greater_positive}
use Rattle.linked_increase.proofs.Leading.{leader_leads}
use Rattle.linked_increase.proofs.Sums.{scaled_sum_some}
use Rattle.linked_increase.proofs.Rounding.{between}

-- a row leads where there are rows
pub record IsLed (rows : List Row) : Type 0 where
  pub m : Row
  pub leads : leader rows ≡ Some m

pub led : (rows : List Row) → 0 < length rows → IsLed rows
led [] some = absurd (omega arith)
led (first ∷ rest) some = record { m = fold leading first rest; leads = refl }

greatest_weight-le : (y : Fraction) (rows : List Row) → All (λ row. IsAtMost (weight row) y) rows
    → IsAtMost (greatest_weight rows) y
greatest_weight-le y [] below = omega arith
greatest_weight-le y (row ∷ rows) below =
    greater-le (weight row) (greatest_weight rows) y
    (All-head (λ row. IsAtMost (weight row) y) row rows below)
    (greatest_weight-le y rows (All-tail (λ row. IsAtMost (weight row) y) row rows below))

greatest_weight_positive : (rows : List Row) → All IsInRange rows → 0 < (greatest_weight rows).denominator
greatest_weight_positive [] ranges = lit< tt
greatest_weight_positive (row ∷ rows) ranges =
    let r = All-head IsInRange row rows ranges in
    greater_positive (weight row) (greatest_weight rows) (mul-pos r.some_rtt r.some_rtt)
    (greatest_weight_positive rows (All-tail IsInRange row rows ranges))

factor_some : (n r : ℕ) → 0 < n * r → 0 < n
factor_some zero r h = omega arith
factor_some (suc n) r h = omega arith

rate_sum_some : (rows : List Row) → AreLinked rows → 0 < (rate_sum rows).numerator
rate_sum_some rows linked =
    let lead = led rows linked.some in
    let both = between lead.m rows linked.in_range in
    let some = mul-pos (scaled_sum_some lead.m rows linked.in_range lead.leads) both.some in
    factor_some (rate_sum rows).numerator lead.m.rtt (omega (arith, both.at_most, some))

pub exact_alpha_positive : (rows : List Row) → AreLinked rows → 0 < (exact_alpha rows).denominator
unfolding exact_alpha
exact_alpha_positive rows linked =
    let some = rate_sum_some rows linked in
    mul-pos (omega (arith, greatest_weight_positive rows linked.in_range)) (mul-pos some some)

-- with n / d the sum of the rates and g / b the greatest weight
crosswise : (c t g b n d s w r : ℕ) → g * (r * r) ≤ w * b → s * d ≤ n * r
    → c * (t * g * (d * d)) * (s * s) ≤ c * t * w * (1 * (1 * b * (n * n)))
crosswise c t g b n d s w r weight_below sum_below =
    let squares = mul-le-mul_left (c * t * g) (mul-le-mul sum_below sum_below) in
    let weights = mul-le-mul_left (c * t * (n * n)) weight_below in
    omega (arith, squares, weights)

pub alpha_is_at_least_exact : (rows : List Row) → AreLinked rows
    → floor_of (times (whole 512) (exact_alpha rows)) ≤ alpha_of rows
unfolding exact_alpha alpha_of
alpha_is_at_least_exact rows linked =
    let lead = led rows linked.some in
    let m = lead.m in
    let is = leader_leads rows m linked.in_range lead.leads in
    let below = greatest_weight-le (weight m) rows is.greatest in
    let some = scaled_sum_some m rows linked.in_range lead.leads in
    rw lead.leads
    (floor_of-le (times (whole 512) (exact_alpha rows))
    (ratio (512 * total rows * m.window) (scaled_sum m rows * scaled_sum m rows))
    (omega (arith, exact_alpha_positive rows linked)) (mul-pos some some)
    (crosswise 512 (total rows) (greatest_weight rows).numerator (greatest_weight rows).denominator
    (rate_sum rows).numerator (rate_sum rows).denominator (scaled_sum m rows) m.window m.rtt below
    (between m rows linked.in_range).at_most))
