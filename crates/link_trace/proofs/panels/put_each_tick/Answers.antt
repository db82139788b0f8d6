use Rattle.std.proofs.Common.{ℕ, ◌*◌, arith, rules, string_bytes}
use Rattle.link_trace.specs.Panels.{tick_of}
use Rattle.link_trace.specs.Rows.{capped}
use Rattle.link_trace.proofs.Parts.{number_more}
use Rattle.link_trace.proofs.panels.put_each_tick.Goals as goal

pub loop-n-preserved : goal.loop-n-preserved
loop-n-preserved c =
    number_more (λ (n : ℕ). tick_of c.args.scale.now (capped (c.args.step * n))) c.args.count c.loop-n.n (string_bytes c.loop-n.text) _ _
    (omega (arith, c.loop-n-test.true)) c.loop-n.invariant (search rules)
