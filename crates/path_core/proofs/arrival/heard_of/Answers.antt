use Rattle.path_core.proofs.Words.{◌<◌, arith, All-from_get_or}
use Rattle.path_core.proofs.FewThings.{lent_few}
use Rattle.path_core.proofs.arrival.heard_of.Goals as goal

pub returns-clause-few : goal.returns-clause-few
returns-clause-few c =
    lent_few c.args.spelling.now c.args.from c.args.expected.now c.args.octets.now
    (All-from_get_or (λ x. x < 256) c.args.octets.now 0 (λ i within. omega (arith, c.type_inv.octets i))) c.parse_segment.result c.parse_segment.ensures.value
