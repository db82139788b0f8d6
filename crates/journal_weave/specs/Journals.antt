-- What holds of the journals of the six books.
use Rattle.stamped_book.specs.Journal.{IsJournal, Rise}
use Rattle.send_book.specs.Steps as sending
use Rattle.reassembly_book.specs.Steps as arriving
use Rattle.control_book.specs.Replies as controlling
use Rattle.control_book.specs.Steps as control
use Rattle.actor_desk.specs.Books.{StampedBooks}

-- each reply is the one that the book gives there, and each stamp is one more than the greater of the one before and of what the
-- asker had seen
pub record AreJournals (books : StampedBooks) : Type 0 where
  pub send_a : IsJournal sending.reply_to sending.after_call books.send_a.opening 0 books.send_a.journal
  pub send_b : IsJournal sending.reply_to sending.after_call books.send_b.opening 0 books.send_b.journal
  pub reassembly_a : IsJournal arriving.reply_to arriving.after_call books.reassembly_a.opening 0 books.reassembly_a.journal
  pub reassembly_b : IsJournal arriving.reply_to arriving.after_call books.reassembly_b.opening 0 books.reassembly_b.journal
  pub control_a : IsJournal controlling.reply_to control.after books.control_a.opening 0 books.control_a.journal
  pub control_b : IsJournal controlling.reply_to control.after books.control_b.opening 0 books.control_b.journal

-- stamps rise in each
pub record JournalsRise (books : StampedBooks) : Type 0 where
  pub send_a : Rise 0 books.send_a.journal
  pub send_b : Rise 0 books.send_b.journal
  pub reassembly_a : Rise 0 books.reassembly_a.journal
  pub reassembly_b : Rise 0 books.reassembly_b.journal
  pub control_a : Rise 0 books.control_a.journal
  pub control_b : Rise 0 books.control_b.journal
