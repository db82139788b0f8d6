use Rattle.std.proofs.Common.{arith, string_bytes}
use Rattle.link_trace.specs.Windows.{window_line}
use Rattle.link_trace.proofs.Parts.{number_more}
use Rattle.link_trace.proofs.windows.put_lines.Goals as goal

pub loop-path-preserved : goal.loop-path-preserved
loop-path-preserved c =
    number_more (window_line c.args.scale.now c.args.windows.now) c.args.paths c.loop-path.path (string_bytes c.loop-path.text) _ _
    (omega (arith, c.loop-path-test.true)) c.loop-path.invariant c.in_ok-put_line.ensures
