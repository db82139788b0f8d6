use Rattle.stamped_book.specs.Journal.{book_of}
use Rattle.subflow_worker.proofs.Entering.{entered}
use Rattle.subflow_worker.proofs.held.Held.enter.Goals as goal

pub invariant_of-self : goal.invariant_of-self
invariant_of-self g c =
    entered g.O.Book.reply_to g.O.Book.after g.O.Kept.sound g.S.Start.start c.self.inside.book c.enter.new.self c.args.pass.now c.args.call.now c.enter.result
    c.enter.ensures.entry c.enter.ensures.err c.self.invariant
    (λ sound. c.stays.ensures (book_of g.O.Book.reply_to g.O.Book.after c.self.inside.book) c.args.call.now c.requires sound)
