use Rattle.std.proofs.Common.{◌+◌, drop}
use Rattle.std.specs.Prelude.{string_bytes}
use Rattle.std.proofs.lemmas.List.{at_drop_all, at_drop_more}
use Rattle.capture_verdict.specs.Report.{strays_words}
use Rattle.capture_verdict.proofs.Lists.{told_on, told_out}
use Rattle.capture_verdict.proofs.told.put_strays.Goals as goal

pub loop-flow-preserved : goal.loop-flow-preserved
loop-flow-preserved c =
    let flows = c.args.flows.now in
    told_on (string_bytes c.loop-flow.text) _ _ _ (strays_words (drop c.loop-flow.flow-index flows)) (strays_words (drop (c.loop-flow.flow-index + 1) flows))
    c.in_ok-put_if_stray.ensures (at_drop_more strays_words flows c.loop-flow.flow-index _ c.loop-flow-test.true) c.loop-flow.invariant

pub returns : goal.returns
returns c =
    told_out (string_bytes c.loop-flow.text) _ (strays_words (drop c.loop-flow.flow-index c.args.flows.now))
    (at_drop_all strays_words c.args.flows.now c.loop-flow.flow-index c.loop-flow-test.false) c.loop-flow.invariant
