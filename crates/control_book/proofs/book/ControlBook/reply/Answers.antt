use Rattle.control_book.proofs.book.ControlBook.reply.Goals as goal

pub returns-in-Heard : goal.returns-in-Heard
returns-in-Heard c = rw c.in-Heard.is c.address_reply.ensures
