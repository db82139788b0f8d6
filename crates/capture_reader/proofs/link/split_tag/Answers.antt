use Rattle.std.proofs.Common.{arith}
use Rattle.capture_reader.proofs.Tags.{tag_cut, tag_over}
use Rattle.capture_reader.proofs.link.split_tag.Goals as goal

pub returns-then-octets-lt4-clause-follows : goal.returns-then-octets-lt4-clause-follows
returns-then-octets-lt4-clause-follows c = λ kind tag. tag_cut kind c.args.octets.now tag (omega arith)

pub returns-clause-follows : goal.returns-clause-follows
returns-clause-follows c = λ kind tag.
    tag_over kind c.u16_at.result c.args.octets.now c.rest_from.result.now tag (omega arith) c.u16_at.ensures c.rest_from.ensures
