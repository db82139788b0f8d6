use Rattle.send_book.proofs.Grants.{nothing_after_an_abort}
use Rattle.send_book.proofs.laws.nothing_after_an_abort.Goals as goal

pub returns : goal.returns
returns c = nothing_after_an_abort
