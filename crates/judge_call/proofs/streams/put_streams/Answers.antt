use Rattle.std.proofs.Common.{List, subst, sym, refl, map, arith}
use Rattle.std.proofs.lemmas.List.{at_drop_all}
use Rattle.std.proofs.lemmas.Result.{err_from_is_err_and}
use Rattle.rule_book.specs.State.{BookValue, book_of}
use Rattle.judge_call.specs.Plan.{AddsAll, books_steps}
use Rattle.judge_call.proofs.Planned.{book_cut, book_done, book_then, follows_end, none_done}
use Rattle.judge_call.proofs.streams.put_streams.Goals as goal

pub loop-book-init : goal.loop-book-init
loop-book-init g c = record { index = refl; done = λ end done. done; cut = λ end status cut. cut }

pub loop-book-preserved : goal.loop-book-preserved
loop-book-preserved g c =
    let before = (g.O.Outside.told c.loop-book.outside).calls in
    let after = (g.O.Outside.told c.put_both.new.outside).calls in
    let number = c.loop-book.number in
    let index = c.loop-book.book-index in
    let test = c.loop-book-test.true in
    record {
      index = omega (arith, c.loop-book.invariant.index);
      done = λ end others.
          c.loop-book.invariant.done end
          (book_done c.args.prefix.now number index c.args.books.now _ _ before after end test c.book-item.is c.in_ok-put_both.ensures.done others);
      cut = λ end status others.
          c.loop-book.invariant.cut end status
          (book_then c.args.prefix.now number index c.args.books.now _ _ status before after end test c.book-item.is c.in_ok-put_both.ensures.done others);
    }

pub returns-in_err-put_both : goal.returns-in_err-put_both
returns-in_err-put_both g c =
    let before = (g.O.Outside.told c.loop-book.outside).calls in
    let after = (g.O.Outside.told c.put_both.new.outside).calls in
    let status = c.in_err-put_both.field-0.0 in
    let p = err_from_is_err_and c.from_residual.result c.from_residual.ensures.1 in
    rw (p.1, p.2) (follows_end (books_steps c.args.prefix.now 0 (map book_of c.args.books.now)) _ after status
    (c.loop-book.invariant.cut after status
    (book_cut c.args.prefix.now c.loop-book.number c.loop-book.book-index c.args.books.now _ _ status before after c.loop-book-test.true c.book-item.is
    c.in_err-put_both.ensures.cut)))

pub returns : goal.returns
returns g c = record {
  done =
      c.loop-book.invariant.done (g.O.Outside.told c.loop-book.outside).calls
      (subst (λ (books : List BookValue). AddsAll (books_steps c.args.prefix.now c.loop-book.number books) (g.O.Outside.told c.loop-book.outside).calls (g.O.Outside.told c.loop-book.outside).calls)
      (sym (at_drop_all (map book_of) c.args.books.now c.loop-book.book-index c.loop-book-test.false)) (none_done (g.O.Outside.told c.loop-book.outside).calls));
  cut = tt;
}
