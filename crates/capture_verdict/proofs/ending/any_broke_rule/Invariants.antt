use Rattle.std.proofs.Common.{◌≡◌, drop, map}
use Rattle.std.specs.List.{list_any}
use Rattle.rule_book.specs.State.{book_of}
use Rattle.capture_verdict.specs.Ending.{broke_rule}
use Rattle.capture_verdict.proofs.ending.any_broke_rule.Given as goal

abbrev pub invariant-loop-book : goal.invariant-loop-book
invariant-loop-book l = list_any broke_rule (map book_of (drop l.book-index l.books)) ≡ list_any broke_rule (map book_of l.books)
