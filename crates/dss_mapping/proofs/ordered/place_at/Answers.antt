use Rattle.std.proofs.Common.{sym, arith}
use Rattle.dss_mapping.proofs.RunsInOrder.{none_at_the_end}
use Rattle.dss_mapping.proofs.ordered.place_at.Goals as goal

pub returns-then-pos-eq18446744073709551615 : goal.returns-then-pos-eq18446744073709551615
returns-then-pos-eq18446744073709551615 c =
    sym (none_at_the_end c.args.runs.now c.args.tail c.args.pos c.requires.ordered c.requires.sound (omega arith))
