use Rattle.std.proofs.Common.{arith, refl}
use Rattle.seen_streams.specs.declared.waits.Waits.{Waits}
use Rattle.seen_streams.proofs.Gaps.{gaps_reached}
use Rattle.seen_streams.proofs.waits.reach.Goals as goal

pub returns-clause-gaps : goal.returns-clause-gaps
returns-clause-gaps c = λ octet h.
    (let waits : Waits = record c.args.waits.now { from = c.min-waits.result; to = c.max-waits.result } in
    gaps_reached c.args.waits.now waits octet refl refl (omega (arith, c.min-waits.ensures)) (omega (arith, c.max-waits.ensures)) h)
