-- The row that leads is one of the rows, so it is in range and the sum is not 0.
use Rattle.std.proofs.Common.{◌≡◌, ◌*◌, Some, arith}
use Rattle.std.proofs.Math.Nat.{mul-pos, mul-le-mul, div-le_self}
use Rattle.linked_increase.specs.Paths.{leader}
use Rattle.linked_increase.specs.Scaled.{alpha_of}
use Rattle.linked_increase.proofs.Exactness.{alpha_is_at_least_exact}
use Rattle.linked_increase.proofs.Leading.{leader_in_range}
use Rattle.linked_increase.proofs.Sums.{scaled_sum_some}
use Rattle.linked_increase.proofs.increase.alpha.Goals as goal

pub scaled_sum-requires-clause-lead : goal.scaled_sum-requires-clause-lead
scaled_sum-requires-clause-lead c =
    let leads : leader c.args.rows.now ≡ Some c.unwrap-lead.result = cc in
    leader_in_range c.args.rows.now c.unwrap-lead.result c.requires.in_range leads

pub nonzero_div-result : goal.nonzero_div-result
nonzero_div-result c =
    let leads : leader c.args.rows.now ≡ Some c.unwrap-lead.result = cc in
    let some = scaled_sum_some c.unwrap-lead.result c.args.rows.now c.requires.in_range leads in
    rw (c.from-sum.ensures, c.scaled_sum.ensures.value, c.listed-rows.ensures.value) (mul-pos some some)

pub returns-clause-value : goal.returns-clause-value
unfolding alpha_of
returns-clause-value c =
    let leads : leader c.args.rows.now ≡ Some c.unwrap-lead.result = cc in
    rw leads cc

pub returns-clause-at_least : goal.returns-clause-at_least
returns-clause-at_least c =
    rw (returns-clause-value c)
    (alpha_is_at_least_exact c.args.rows.now (record { some = c.requires.some; in_range = c.requires.in_range }))

pub returns-clause-bound : goal.returns-clause-bound
returns-clause-bound c =
    let leads : leader c.args.rows.now ≡ Some c.unwrap-lead.result = cc in
    let in_range = leader_in_range c.args.rows.now c.unwrap-lead.result c.requires.in_range leads in
    let product = mul-le-mul c.total.ensures.bound in_range.window in
    let quotient = div-le_self (512 * c.total.result * c.unwrap-lead.result.window) (c.from-sum.result * c.from-sum.result) in
    rw (c.from.ensures, c.from-2.ensures) (omega (arith, product, quotient))
