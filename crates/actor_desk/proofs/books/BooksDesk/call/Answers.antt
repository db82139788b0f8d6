use Rattle.actor_desk.specs.Books.{books_in}
use Rattle.actor_desk.specs.Bounds.{IsBounded}
use Rattle.actor_desk.specs.Desk.{reply_of}
use Rattle.actor_desk.specs.Kinds.{IsOfKind}
use Rattle.actor_desk.proofs.Entered.{if_told, call_noted}
use Rattle.actor_desk.proofs.InKind.{books_answer}
use Rattle.actor_desk.proofs.Small.{answer_small}
use Rattle.actor_desk.proofs.books.BooksDesk.call.Goals as goal

pub returns-clause-kind : goal.returns-clause-kind
returns-clause-kind c =
    if_told c.enter.result (reply_of (books_in c.args.self.now) c.args.ask.now) (λ reply. IsOfKind c.args.ask.now reply) c.enter.ensures.reply
    (books_answer (books_in c.args.self.now) c.args.ask.now c.sound.ensures.tiled c.requires.conditions)

pub returns-clause-bounds : goal.returns-clause-bounds
returns-clause-bounds c =
    if_told c.enter.result (reply_of (books_in c.args.self.now) c.args.ask.now) (λ reply. IsBounded c.args.ask.now reply) c.enter.ensures.reply
    (answer_small (books_in c.args.self.now) c.args.ask.now c.sound.ensures.tiled c.sound.ensures.small c.requires.conditions)

pub returns-clause-notes : goal.returns-clause-notes
returns-clause-notes c =
    call_noted c.enter.result c.args.ask.now c.args.pass.now c.enter.new.pass c.args.self.now c.enter.new.self c.requires.book c.enter.ensures.reply
    c.enter.ensures.ok c.enter.ensures.pass
