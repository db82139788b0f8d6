use Rattle.std.proofs.Common.{sym}
use Rattle.std.proofs.lemmas.List.{length-map}
use Rattle.rule_book.specs.State.{book_of}
use Rattle.capture_verdict.proofs.totals.count_books.Goals as goal

pub returns : goal.returns
returns c = sym (length-map c.args.books.now book_of)
