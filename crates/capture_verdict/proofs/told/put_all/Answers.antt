use Rattle.std.proofs.Common.{◌+◌, drop, arith}
use Rattle.std.specs.Prelude.{string_bytes}
use Rattle.std.proofs.lemmas.List.{at_drop_all, at_drop_more}
use Rattle.rule_book.specs.State.{judged_of}
use Rattle.capture_verdict.specs.Report.{all_words}
use Rattle.capture_verdict.proofs.Lists.{told_on, told_out}
use Rattle.capture_verdict.proofs.told.put_all.Goals as goal

pub loop-one-preserved : goal.loop-one-preserved
loop-one-preserved c =
    let words = all_words (judged_of c.args.judged.now) c.loop-one.number in
    let totals = c.args.totals.now in
    let later = all_words (judged_of c.args.judged.now) (c.loop-one.number + 1) (drop (c.loop-one.one-index + 1) totals) in
    record {
      index = omega (arith, c.loop-one.invariant.index);
      told = told_on (string_bytes c.loop-one.text) _ _ _ (words (drop c.loop-one.one-index totals)) later c.in_ok-put_at.ensures
          (at_drop_more words totals c.loop-one.one-index _ c.loop-one-test.true) c.loop-one.invariant.told;
    }

pub returns : goal.returns
returns c =
    let words = all_words (judged_of c.args.judged.now) c.loop-one.number in
    told_out (string_bytes c.loop-one.text) _ (words (drop c.loop-one.one-index c.args.totals.now))
    (at_drop_all words c.args.totals.now c.loop-one.one-index c.loop-one-test.false) c.loop-one.invariant.told
