use Rattle.std.proofs.Common.{◌≡◌, List, Option, drop, map}
use Rattle.outside_kit.specs.Calls.{Made}
use Rattle.rule_book.specs.State.{book_of}
use Rattle.judge_call.specs.declared.status.Status.{Status}
use Rattle.judge_call.specs.Plan.{AddsAll, AddsCut, books_steps}
use Rattle.judge_call.proofs.streams.put_streams.Given as goal

-- with the streams of the other connections those of all are put, and what cuts these off cuts off all
abbrev pub invariant-loop-book : goal.invariant-loop-book
invariant-loop-book g l = record {
  index : l.number ≡ l.book-index;
  done : (end : Option (List Made)) → AddsAll (books_steps l.prefix l.number (map book_of (drop l.book-index l.books))) (g.O.Outside.told l.outside).calls end
      → AddsAll (books_steps l.prefix 0 (map book_of l.books)) (g.O.Outside.told l.fn.outside).calls end;
  cut : (end : Option (List Made)) (status : Status) → AddsCut (books_steps l.prefix l.number (map book_of (drop l.book-index l.books))) status (g.O.Outside.told l.outside).calls end
      → AddsCut (books_steps l.prefix 0 (map book_of l.books)) status (g.O.Outside.told l.fn.outside).calls end;
}
