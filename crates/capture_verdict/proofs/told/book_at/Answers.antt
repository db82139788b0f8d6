use Rattle.rule_book.specs.State.{book_of}
use Rattle.capture_verdict.proofs.Lists.{lent_as}
use Rattle.capture_verdict.proofs.told.book_at.Goals as goal

pub returns : goal.returns
returns c = lent_as book_of c.args.books.now c.args.number c.get.result c.get.ensures.lookup
