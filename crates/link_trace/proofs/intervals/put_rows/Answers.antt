use Rattle.std.proofs.Common.{◌+◌, ◌-◌, refl, arith, rules, string_bytes}
use Rattle.link_trace.proofs.Parts.{rows_more}
use Rattle.link_trace.proofs.intervals.put_rows.Goals as goal

pub loop-row-preserved : goal.loop-row-preserved
loop-row-preserved c =
    rows_more c.args.measured.now c.args.paths c.args.path c.args.side c.args.shares.now c.args.answers.now c.args.rows c.loop-row.row (c.args.rows - (c.loop-row.row + 1)) (string_bytes c.loop-row.text) _ _
    (omega (arith, c.loop-row-test.true)) refl c.loop-row.invariant (search rules)
