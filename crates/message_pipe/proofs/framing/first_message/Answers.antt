use Rattle.std.proofs.Common.{refl, arith}
use Rattle.std.proofs.lemmas.List.{take_rest}
use Rattle.message_pipe.proofs.Framed.{framed}
use Rattle.message_pipe.proofs.framing.first_message.Goals as goal

pub returns-clause-whole : goal.returns-clause-whole
returns-clause-whole c =
    rw take_rest (framed c.args.octets.now _ c.told_length-length.result (λ i. let fits = c.type_inv.octets i in omega arith) (omega arith) c.told_length-length.ensures (omega arith) refl)
