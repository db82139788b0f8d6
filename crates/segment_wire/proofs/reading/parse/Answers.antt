use Rattle.std.proofs.Common.{ap, ◌∙◌, arith}
use Rattle.segment_wire.specs.Reading.{segment_meaning}
use Rattle.segment_wire.proofs.Again.{segment_meaning-written}
use Rattle.segment_wire.proofs.reading.parse.Goals as goal

pub returns-clause-written : goal.returns-clause-written
returns-clause-written c = λ segment can is_text.
    c.read.ensures.exact ∙ ap (segment_meaning c.args.addresses.now) is_text ∙ segment_meaning-written c.args.addresses.now segment (omega arith) (omega arith) can
