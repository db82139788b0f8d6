use Rattle.std.proofs.Common.{◌+◌, ◌*◌, get_or, refl, arith}
use Rattle.capture_reader.proofs.Extensions.{cut, over}
use Rattle.capture_reader.proofs.internet.split_extension.Goals as goal

pub returns-then-octets-len-clause-follows : goal.returns-then-octets-len-clause-follows
returns-then-octets-len-clause-follows c = λ kind extension.
    cut kind (8 + 8 * get_or c.args.octets.now 1 0) c.args.octets.now extension (omega arith) refl (omega (arith, c.from.ensures))

pub returns-clause-follows : goal.returns-clause-follows
returns-clause-follows c = λ kind extension.
    over kind (get_or c.args.octets.now 0 0) (8 + 8 * get_or c.args.octets.now 1 0) c.args.octets.now c.rest_from.result.now extension (omega arith) refl refl
    (omega (arith, c.from.ensures)) (rw c.from.ensures at c.rest_from.ensures)
