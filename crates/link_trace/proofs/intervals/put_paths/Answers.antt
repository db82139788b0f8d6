use Rattle.std.proofs.Common.{◌+◌, ◌-◌, refl, arith, string_bytes}
use Rattle.link_trace.proofs.Parts.{paths_more}
use Rattle.link_trace.proofs.intervals.put_paths.Goals as goal

pub loop-path-preserved : goal.loop-path-preserved
loop-path-preserved c =
    paths_more c.args.measured.now c.args.paths c.args.rows c.args.carried.now c.loop-path.path (c.args.paths - (c.loop-path.path + 1)) (string_bytes c.loop-path.text) _ _ _
    (omega (arith, c.loop-path-test.true)) refl c.loop-path.invariant c.in_ok-put_way.ensures c.in_ok-put_way-2.ensures
