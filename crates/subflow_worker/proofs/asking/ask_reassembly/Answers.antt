use Rattle.std.proofs.Common.{subst}
use Rattle.stamped_book.specs.Journal.{book_of}
use Rattle.reassembly_book.specs.Steps as arriving
use Rattle.actor_desk.specs.Bounds.{IsReceivedSmall}
use Rattle.subflow_worker.proofs.Asked.{reassembly_in_kind, reassembly_bounded}
use Rattle.subflow_worker.proofs.asking.ask_reassembly.Goals as goal

pub returns-clause-kind : goal.returns-clause-kind
returns-clause-kind g c =
    reassembly_in_kind c.enter.result (book_of arriving.reply_to arriving.after_call c.args.held.now) c.args.call.now c.enter.ensures.reply

pub returns-clause-bounds : goal.returns-clause-bounds
returns-clause-bounds g c =
    reassembly_bounded c.enter.result (book_of arriving.reply_to arriving.after_call c.args.held.now) c.args.call.now c.enter.ensures.reply
    (subst IsReceivedSmall c.book-book.ensures.value c.book-book.ensures.sound) c.requires
