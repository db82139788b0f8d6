use Rattle.std.proofs.Common.{arith}
use Rattle.run_trace.proofs.InitialRows.{initials_more}
use Rattle.run_trace.proofs.initials.initials_of.Goals as goal

pub loop-path-preserved : goal.loop-path-preserved
loop-path-preserved c =
    let test = c.loop-path-test.true in
    initials_more c.args.script.now c.args.lines.now c.loop-path.path c.loop-path.initials.items _ _ _ (omega (arith, test)) c.loop-path.invariant
    c.in_ok-push.ensures.items c.path_initials.ensures
