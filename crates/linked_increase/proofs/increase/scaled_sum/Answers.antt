use Rattle.std.proofs.Common.{◌≡◌, arith, rules}
use Rattle.linked_increase.specs.Scaled.{scaled_sum}
use Rattle.linked_increase.proofs.Sums.{scaled_sum_le}
use Rattle.linked_increase.proofs.increase.scaled_sum.Goals as goal

pub returns-clause-bound : goal.returns-clause-bound
returns-clause-bound c =
    let is : c.sum.result ≡ scaled_sum c.args.lead c.args.rows.now = search rules in
    omega (arith, is, scaled_sum_le c.args.lead c.args.rows.now c.requires.lead c.requires.in_range)
