use Rattle.std.proofs.Common.{◌≡◌, arith, rules}
use Rattle.linked_increase.specs.Paths.{total}
use Rattle.linked_increase.proofs.Sums.{total_le}
use Rattle.linked_increase.proofs.increase.total.Goals as goal

pub returns-clause-bound : goal.returns-clause-bound
returns-clause-bound c =
    let is : c.sum.result ≡ total c.args.rows.now = search rules in
    omega (arith, is, total_le c.args.rows.now c.requires.in_range)
