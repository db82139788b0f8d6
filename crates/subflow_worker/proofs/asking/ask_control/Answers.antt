use Rattle.std.proofs.Common.{subst}
use Rattle.stamped_book.specs.Journal.{book_of}
use Rattle.control_book.specs.Replies as controlling
use Rattle.control_book.specs.Steps as control
use Rattle.actor_desk.specs.Keeping.{HasRightRows}
use Rattle.subflow_worker.proofs.Asked.{control_in_kind, control_bounded}
use Rattle.subflow_worker.proofs.asking.ask_control.Goals as goal

pub returns-clause-kind : goal.returns-clause-kind
returns-clause-kind g c =
    control_in_kind c.enter.result (book_of controlling.reply_to control.after c.args.held.now) c.args.call.now c.enter.ensures.reply

pub returns-clause-bounds : goal.returns-clause-bounds
returns-clause-bounds g c =
    control_bounded c.enter.result (book_of controlling.reply_to control.after c.args.held.now) c.args.call.now c.enter.ensures.reply
    (subst HasRightRows c.book-book.ensures.value c.book-book.ensures.sound) c.requires
