use Rattle.rule_book.specs.State.{judged_of}
use Rattle.judge_call.proofs.Telling.{told_all, told_cut}
use Rattle.judge_call.specs.Words.{as_line}
use Rattle.judge_call.proofs.judging.tell.Goals as goal

pub returns-in-Ok : goal.returns-in-Ok
returns-in-Ok g c = λ before loaded.
    rw (c.of.ensures, c.ending_of.ensures)
    (told_all (as_line c.args.line.now) (judged_of c.args.judged.now) before _ _ loaded c.in-Ok.ensures.done)

pub returns-in-Err : goal.returns-in-Err
returns-in-Err g c = λ before loaded.
    told_cut (as_line c.args.line.now) (judged_of c.args.judged.now) before _ _ c.in-Err.status loaded c.in-Err.ensures.cut
