use Rattle.std.proofs.lemmas.List.{take_rest}
use Rattle.std.proofs.lemmas.Result.{err_from_is_err_and}
use Rattle.message_pipe.proofs.ShownMore.{one_more, last_part, stays_then}
use Rattle.message_pipe.proofs.CallsBelow.{puts_one_more, puts_last_part}
use Rattle.message_pipe.proofs.showing.show_messages.Goals as goal

pub returns-in_err-put_line-clause-err : goal.returns-in_err-put_line-clause-err
returns-in_err-put_line-clause-err g c =
    let p = err_from_is_err_and c.from_residual.result c.from_residual.ensures.1 in
    let is = rw take_rest at c.in-Some.ensures.whole in
    rw p.1 (last_part c.args.octets.now c.args.from c.loop-message.end c.in-Some.message.now _ _ _ c.loop-message.invariant.0 is c.in-Some.ensures.short c.in_err-put_line.ensures.err)

pub returns-in_err-put_line-clause-part : goal.returns-in_err-put_line-clause-part
returns-in_err-put_line-clause-part g c =
    let p = err_from_is_err_and c.from_residual.result c.from_residual.ensures.1 in
    let is = rw take_rest at c.in-Some.ensures.whole in
    rw p.1 (puts_last_part c.args.port c.args.octets.now c.args.from c.loop-message.end c.in-Some.message.now _ _ _ c.loop-message.invariant.2 is c.in-Some.ensures.short c.in_err-put_line.ensures.refused)

pub loop-message-preserved : goal.loop-message-preserved
loop-message-preserved g c =
    let is = rw take_rest at c.in-Some.ensures.whole in (
      one_more c.args.octets.now c.args.from c.loop-message.end c.in-Some.message.now _ _ _ c.loop-message.invariant.0 is c.in-Some.ensures.short c.in_ok-put_line.ensures.ok,
      stays_then _ _ _ _ c.loop-message.invariant.1 c.in_ok-put_line.ensures.stays,
      puts_one_more c.args.port c.args.octets.now c.args.from c.loop-message.end c.in-Some.message.now _ _ _ c.loop-message.invariant.2 is c.in-Some.ensures.short c.in_ok-put_line.ensures.one,
    )
