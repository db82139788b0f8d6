use Rattle.std.proofs.Common.{sym, ◌∙◌, ap}
use Rattle.stamped_book.proofs.Journals.{replay-opening}
use Rattle.stamped_book.proofs.laws.journals_begin_at_an_opening.Goals as goal

pub returns : goal.returns
returns g c =
    sym (replay-opening g.O.Book.reply_to g.O.Book.after g.O.Book.opening g.met.O.Book.opening_stays _ c.args.stamped.now.journal)
    ∙ ap g.O.Book.opening (sym c.book-book.ensures.replay) ∙ c.book-book.ensures.opening
