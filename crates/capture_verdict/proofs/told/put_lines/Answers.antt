use Rattle.std.proofs.Common.{List, ◌+◌, drop, map}
use Rattle.std.specs.Prelude.{string_bytes}
use Rattle.std.proofs.lemmas.List.{at_drop_all, at_drop_more}
use Rattle.judge_rules.specs.declared.broken.Broken.{Broken}
use Rattle.seen_streams.specs.Shows.{as_broken}
use Rattle.capture_verdict.specs.Report.{line_words}
use Rattle.capture_verdict.proofs.Lists.{told_on, told_out}
use Rattle.capture_verdict.proofs.told.put_lines.Goals as goal

pub loop-one-preserved : goal.loop-one-preserved
loop-one-preserved c =
    let words = λ (broken : List Broken). line_words c.args.side (map as_broken broken) in
    let broken = c.args.broken.now in
    told_on (string_bytes c.loop-one.text) _ _ _ (words (drop c.loop-one.one-index broken)) (words (drop (c.loop-one.one-index + 1) broken))
    c.in_ok-put_line.ensures (at_drop_more words broken c.loop-one.one-index _ c.loop-one-test.true) c.loop-one.invariant

pub returns : goal.returns
returns c =
    let words = λ (broken : List Broken). line_words c.args.side (map as_broken broken) in
    told_out (string_bytes c.loop-one.text) _ (words (drop c.loop-one.one-index c.args.broken.now))
    (at_drop_all words c.args.broken.now c.loop-one.one-index c.loop-one-test.false) c.loop-one.invariant
