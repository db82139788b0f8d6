use Rattle.std.proofs.Common.{◌+◌, length, refl}
use Rattle.seen_octets.proofs.Kept.{already_by}
use Rattle.seen_octets.proofs.octets.SeenOctets.fill.Goals as goal

pub returns-then-is_whole-clause-filled : goal.returns-then-is_whole-clause-filled
returns-then-is_whole-clause-filled c = λ p.
    already_by c.args.self.now c.args.from (c.args.from + length c.args.part.now) c.args.teller p c.args.part.now c.is_whole.result refl c.is_whole.ensures
    c.if-is_whole.true
