use Rattle.std.proofs.Common.{◌≡◌, ◌++◌, drop}
use Rattle.std.specs.Prelude.{string_bytes}
use Rattle.rule_book.specs.State.{judged_of}
use Rattle.capture_verdict.specs.Report.{all_words}
use Rattle.capture_verdict.proofs.told.put_all.Given as goal

abbrev pub invariant-loop-one : goal.invariant-loop-one
invariant-loop-one l = record {
  index : l.number ≡ l.one-index;
  told : string_bytes l.text ++ all_words (judged_of l.judged) l.number (drop l.one-index l.totals)
      ≡ string_bytes l.fn.text ++ all_words (judged_of l.judged) 0 l.totals;
}
