use Rattle.std.proofs.Common.{ap, length, arith}
use Rattle.path_agenda.proofs.Things.{heard_next, heard_length}
use Rattle.path_agenda.proofs.templates.things_heard.Goals as goal

pub push-requires : goal.push-requires
push-requires c =
    let some = c.loop-index-test.true in let most = c.requires in let same = ap length c.loop-index.invariant in
    (omega arith, omega (arith, same, heard_length c.args.side 0 c.loop-index.index, some, most))

pub loop-index-preserved : goal.loop-index-preserved
loop-index-preserved c = rw (c.push.ensures.items, c.loop-index.invariant) (heard_next c.args.side c.loop-index.index)
