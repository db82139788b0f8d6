use Rattle.std.proofs.Common.{subst}
use Rattle.stamped_book.specs.Journal.{book_of}
use Rattle.send_book.specs.State.{Tile}
use Rattle.send_book.specs.Steps as sending
use Rattle.actor_desk.specs.Bounds.{IsWrittenSmall}
use Rattle.subflow_worker.proofs.Asked.{send_in_kind, send_bounded}
use Rattle.subflow_worker.proofs.asking.ask_send.Goals as goal

pub returns-clause-kind : goal.returns-clause-kind
returns-clause-kind g c =
    send_in_kind c.enter.result (book_of sending.reply_to sending.after_call c.args.held.now) c.args.call.now c.enter.ensures.reply
    (subst Tile c.book.ensures.value c.marks_tile.ensures.tile) c.requires

pub returns-clause-bounds : goal.returns-clause-bounds
returns-clause-bounds g c =
    send_bounded c.enter.result (book_of sending.reply_to sending.after_call c.args.held.now) c.args.call.now c.enter.ensures.reply
    (subst Tile c.book.ensures.value c.marks_tile.ensures.tile) (subst IsWrittenSmall c.book.ensures.value c.book.ensures.sound)
