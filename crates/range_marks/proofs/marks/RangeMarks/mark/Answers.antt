use Rattle.std.proofs.Common.{max, ap, ◌∙◌, arith}
use Rattle.range_marks.specs.Marks.{after_mark}
use Rattle.range_marks.proofs.Parts.{after_mark-max, after_mark-none}
use Rattle.range_marks.proofs.marks.RangeMarks.mark.Goals as goal

pub returns-in_ok-self-clause-ok : goal.returns-in_ok-self-clause-ok
returns-in_ok-self-clause-ok g c =
    c.in_ok-self.ensures
    ∙ ap (λ n. after_mark n c.args.to c.args.mark c.args.self.now) (c.max-from.ensures ∙ ap (λ n. max c.args.from n) c.forgotten.ensures.value)
    ∙ after_mark-max c.args.self.now c.args.from c.args.to c.args.mark

pub returns-else-from-to-clause-ok : goal.returns-else-from-to-clause-ok
returns-else-from-to-clause-ok g c = after_mark-none c.args.self.now c.args.from c.args.to c.args.mark c.requires.order (omega arith)
