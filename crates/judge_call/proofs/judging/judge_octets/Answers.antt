use Rattle.std.proofs.Common.{subst}
use Rattle.capture_reader.specs.Steps.{Fails}
use Rattle.capture_verdict.specs.Judging.{judged_capture}
use Rattle.rule_book.specs.State.{judged_of}
use Rattle.judge_call.proofs.Telling.{memory_shown, shown_block, shown_told}
use Rattle.judge_call.specs.Words.{as_line}
use Rattle.judge_call.proofs.judging.judge_octets.Goals as goal

pub returns-in-Ok : goal.returns-in-Ok
returns-in-Ok g c = λ before loaded.
    shown_told (as_line c.args.line.now) (judged_of c.in-Ok.judged) _ before _ c.tell.result c.in-Ok.ensures.exact (c.tell.ensures before loaded)

pub returns-in-Err-Block : goal.returns-in-Err-Block
returns-in-Err-Block g c = λ before loaded.
    let judging = c.args.line.now.judging in
    let shown = judged_capture judging.at judging.check_sums c.args.octets.now in
    rw c.in-Err-Block.octet-is
    (shown_block (as_line c.args.line.now) shown before _ c.in-Err-Block.octet
    (subst (λ fault. Fails fault shown) c.in-Err-Block.field-0-is c.in-Err-Block.ensures.exact) loaded)

pub returns-in-Err-Memory : goal.returns-in-Err-Memory
returns-in-Err-Memory g c = λ before loaded.
    let judging = c.args.line.now.judging in
    memory_shown (as_line c.args.line.now) (judged_capture judging.at judging.check_sums c.args.octets.now) before (g.O.Outside.told c.args.outside.now).calls loaded
