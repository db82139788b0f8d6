use Rattle.ruled_desk.proofs.Words.{ap, inl, inr, false, [], Err, ⊎_elim}
use Rattle.ruled_desk.proofs.Calling.{called, one_more, out_turn, refused_turn, stamped_full}
use Rattle.ruled_desk.proofs.lock.RuledLock.call_at.Goals as goal

pub put_entry-requires-clause-more : goal.put_entry-requires-clause-more
put_entry-requires-clause-more g c κs within =
    one_more c.args.seat.now.me c.take-held.new.seat.me c.take-held.result c.enter.new.self _ c.take-held.ensures.out c.in-Ok.ensures.grown

pub put_refused-requires-clause-turn : goal.put_refused-requires-clause-turn
put_refused-requires-clause-turn g c κs within =
    refused_turn c.args.seat.now.me c.take-held.new.seat.me c.take-held.result c.enter.new.self c.take-held.ensures.out c.in-Err-Stamps.ensures.err

pub put_back-requires-clause-turn : goal.put_back-requires-clause-turn
put_back-requires-clause-turn g c κs within =
    refused_turn c.args.seat.now.me c.take-held.new.seat.me c.take-held.result c.enter.new.self c.take-held.ensures.out c.in-Err-Memory.ensures.err

pub returns-in-Ok-clause-done : goal.returns-in-Ok-clause-done
returns-in-Ok-clause-done g c =
    called c.args.seat.now.me c.take-held.new.seat.me c.put_entry.new.seat.me c.take-held.result _ false c.take-held.ensures.out
    (c.put_entry.ensures.done c.take-held.result _ (out_turn c.args.seat.now.me c.take-held.new.seat.me c.take-held.result c.take-held.ensures.out) c.in-Ok.ensures.grown)

pub returns-in-Err-Stamps-clause-err : goal.returns-in-Err-Stamps-clause-err
returns-in-Err-Stamps-clause-err g c = record {
  full = c.put_refused.ensures.done.0;
  is = called c.args.seat.now.me c.take-held.new.seat.me c.put_refused.new.seat.me c.take-held.result [] c.put_refused.ensures.done.0 c.take-held.ensures.out c.put_refused.ensures.done.1;
}

pub returns-in-Err-Memory-clause-err : goal.returns-in-Err-Memory-clause-err
returns-in-Err-Memory-clause-err g c = record {
  full = false;
  is = called c.args.seat.now.me c.take-held.new.seat.me c.put_back.new.seat.me c.take-held.result [] false c.take-held.ensures.out c.put_back.ensures.done;
}

pub returns-in-Err-Stamps-clause-stamps : goal.returns-in-Err-Stamps-clause-stamps
returns-in-Err-Stamps-clause-stamps g c is =
    ⊎_elim (λ late. inl late)
    (λ last. inr (stamped_full c.args.seat.now.me c.put_refused.new.seat.me c.put_refused.ensures.done.0
    (called c.args.seat.now.me c.take-held.new.seat.me c.put_refused.new.seat.me c.take-held.result [] c.put_refused.ensures.done.0 c.take-held.ensures.out c.put_refused.ensures.done.1)
    (c.put_refused.ensures.done.2 last)))
    (c.in-Err-Stamps.ensures.stamps (ap Err c.in-Err-Stamps.field-0-is))
