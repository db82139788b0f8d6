use Rattle.std.proofs.Common.{arith, string_bytes}
use Rattle.link_trace.specs.Panels.{key_of}
use Rattle.link_trace.proofs.Parts.{number_more}
use Rattle.link_trace.proofs.panels.put_keys.Goals as goal

pub loop-path-preserved : goal.loop-path-preserved
loop-path-preserved c =
    number_more (key_of c.args.block.now c.args.strokes.now) c.args.block.now.paths c.loop-path.path (string_bytes c.loop-path.text) _ _
    (omega (arith, c.loop-path-test.true)) c.loop-path.invariant c.in_ok-put_key.ensures
