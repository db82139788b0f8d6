-- The six books with their journals, and what a call makes of them.
use Rattle.std.specs.Prelude.{ℕ, ◌≡◌, ◌+◌, []}
use Rattle.sides.specs.declared.side.Side.{Side}
use Rattle.stamped_book.specs.declared.stamped.Pass.{Pass}
use Rattle.stamped_book.specs.Journal.{Journaled, book_of}
use Rattle.stamped_book.specs.Entering.{next_stamp, after_entering}
use Rattle.send_book.specs.declared.call.SendCall.{SendCall}
use Rattle.send_book.specs.declared.call.SendReply.{SendReply}
use Rattle.send_book.specs.State.{Sending}
use Rattle.send_book.specs.Steps as sending
use Rattle.reassembly_book.specs.declared.call.ReassemblyCall.{ReassemblyCall}
use Rattle.reassembly_book.specs.declared.call.ReassemblyReply.{ReassemblyReply}
use Rattle.reassembly_book.specs.State.{Arriving}
use Rattle.reassembly_book.specs.Steps as arriving
use Rattle.control_book.specs.declared.call.ControlCall.{ControlCall}
use Rattle.control_book.specs.declared.call.ControlReply.{ControlReply}
use Rattle.control_book.specs.Control.{Control}
use Rattle.control_book.specs.Replies as controlling
use Rattle.control_book.specs.Steps as control
use Rattle.actor_desk.specs.declared.ask.Ask.{Ask}
use Rattle.actor_desk.specs.declared.ask.Ask.TheVariants as asks
use Rattle.actor_desk.specs.declared.ask.Reply.{Reply}
use Rattle.actor_desk.specs.Desk.{SixBooks, reply_of}
use Rattle.actor_desk.specs.Words.{pick}

-- a send book with its journal: as it was opened, and every entry since
abbrev pub SendJournal : Type 0
SendJournal = Journaled Sending SendCall SendReply

-- a reassembly book with its journal: as it was opened, and every entry since
abbrev pub ReassemblyJournal : Type 0
ReassemblyJournal = Journaled Arriving ReassemblyCall ReassemblyReply

-- a control book with its journal: as it was opened, and every entry since
abbrev pub ControlJournal : Type 0
ControlJournal = Journaled Control ControlCall ControlReply

-- the books of both sides, each with its journal
pub record StampedBooks : Type 0 where
  pub send_a : SendJournal
  pub send_b : SendJournal
  pub reassembly_a : ReassemblyJournal
  pub reassembly_b : ReassemblyJournal
  pub control_a : ControlJournal
  pub control_b : ControlJournal

abbrev pub all_six : SendJournal → SendJournal → ReassemblyJournal → ReassemblyJournal → ControlJournal → ControlJournal → StampedBooks
all_six send_a send_b reassembly_a reassembly_b control_a control_b = record {
  send_a = send_a;
  send_b = send_b;
  reassembly_a = reassembly_a;
  reassembly_b = reassembly_b;
  control_a = control_a;
  control_b = control_b;
}

-- the books as their journals made them
abbrev pub books_in : StampedBooks → SixBooks
books_in b = record {
  send_a = book_of sending.reply_to sending.after_call b.send_a;
  send_b = book_of sending.reply_to sending.after_call b.send_b;
  reassembly_a = book_of arriving.reply_to arriving.after_call b.reassembly_a;
  reassembly_b = book_of arriving.reply_to arriving.after_call b.reassembly_b;
  control_a = book_of controlling.reply_to control.after b.control_a;
  control_b = book_of controlling.reply_to control.after b.control_b;
}

-- the books that they were opened with
abbrev pub origin_of : StampedBooks → SixBooks
origin_of b = record {
  send_a = b.send_a.opening;
  send_b = b.send_b.opening;
  reassembly_a = b.reassembly_a.opening;
  reassembly_b = b.reassembly_b.opening;
  control_a = b.control_a.opening;
  control_b = b.control_b.opening;
}

-- just opened, with empty journals
abbrev pub unasked : SixBooks → StampedBooks
unasked books = record {
  send_a = record { opening = books.send_a; journal = [] };
  send_b = record { opening = books.send_b; journal = [] };
  reassembly_a = record { opening = books.reassembly_a; journal = [] };
  reassembly_b = record { opening = books.reassembly_b; journal = [] };
  control_a = record { opening = books.control_a; journal = [] };
  control_b = record { opening = books.control_b; journal = [] };
}

-- ---- a call

-- the stamp of a step: one more than the greater of what the asked book and its asker know
abbrev pub stamp_of : Ask → StampedBooks → Pass → ℕ
stamp_of (asks.Send s call) b pass = next_stamp (pick s b.send_a b.send_b) pass
stamp_of (asks.Reassembly s call) b pass = next_stamp (pick s b.reassembly_a b.reassembly_b) pass
stamp_of (asks.Control s call) b pass = next_stamp (pick s b.control_a b.control_b) pass
stamp_of (asks.Local step) b pass = pass.stamp + 1

-- the call is entered in the asked book's journal, and the other five stay
abbrev pub after_send_entry : Side → SendCall → Pass → StampedBooks → StampedBooks
after_send_entry s call pass b = record b {
  send_a = pick s (after_entering sending.reply_to sending.after_call b.send_a pass call) b.send_a;
  send_b = pick s b.send_b (after_entering sending.reply_to sending.after_call b.send_b pass call);
}

-- the call is entered in the asked reassembly book's journal, and the other five stay
abbrev pub after_reassembly_entry : Side → ReassemblyCall → Pass → StampedBooks → StampedBooks
after_reassembly_entry s call pass b = record b {
  reassembly_a = pick s (after_entering arriving.reply_to arriving.after_call b.reassembly_a pass call) b.reassembly_a;
  reassembly_b = pick s b.reassembly_b (after_entering arriving.reply_to arriving.after_call b.reassembly_b pass call);
}

-- the call is entered in the asked control book's journal, and the other five stay
abbrev pub after_control_entry : Side → ControlCall → Pass → StampedBooks → StampedBooks
after_control_entry s call pass b = record b {
  control_a = pick s (after_entering controlling.reply_to control.after b.control_a pass call) b.control_a;
  control_b = pick s b.control_b (after_entering controlling.reply_to control.after b.control_b pass call);
}

-- the books after a step of any kind; a local one is entered nowhere
abbrev pub after_entry : Ask → Pass → StampedBooks → StampedBooks
after_entry (asks.Send s call) pass b = after_send_entry s call pass b
after_entry (asks.Reassembly s call) pass b = after_reassembly_entry s call pass b
after_entry (asks.Control s call) pass b = after_control_entry s call pass b
after_entry (asks.Local step) pass b = b

-- the books answer by their own reply; the call is entered, and the pass has its stamp
pub record Answers (before after : StampedBooks) (was now : Pass) (ask : Ask) (reply : Reply) : Type 0 where
  pub replied : reply ≡ reply_of (books_in before) ask
  pub entered : after ≡ after_entry ask was before
  pub stamped : now ≡ record was { stamp = stamp_of ask before was }
