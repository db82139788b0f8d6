use Rattle.std.proofs.Common.{◌+◌, ◌-◌, refl, arith}
use Rattle.link_trace.proofs.Parts.{interface_more}
use Rattle.link_trace.proofs.packets.put_interfaces.Goals as goal

pub loop-path-preserved : goal.loop-path-preserved
loop-path-preserved c =
    interface_more c.args.paths c.loop-path.path (c.args.paths - (c.loop-path.path + 1)) c.loop-path.capture.items _ _
    (omega (arith, c.loop-path-test.true)) refl c.loop-path.invariant c.in_ok-put_interface.ensures
