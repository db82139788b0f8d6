-- An ask that is entered at the stamped books is that call at the books that their journals make.
use Rattle.world_laws.proofs.Words.{◌≡◌, refl, ap, [], ◌∷◌, Pass, entry_of, after_entering, Journaled, book_of, replay-append, A, B, Ask, StampedBooks}
use Rattle.world_laws.proofs.Words.{books_in, after_entry, after_ask}
use Rattle.send_book.specs.Steps as sending
use Rattle.reassembly_book.specs.Steps as arriving
use Rattle.control_book.specs.Replies as controlling
use Rattle.control_book.specs.Steps as control

entered : {O C R : Type 0} (reply_to : O → C → R) (after : O → C → O) (stamped : Journaled O C R) (pass : Pass) (call : C)
    → book_of reply_to after (after_entering reply_to after stamped pass call) ≡ after (book_of reply_to after stamped) call
entered reply_to after stamped pass call = replay-append reply_to after stamped.opening stamped.journal (entry_of reply_to after stamped pass call ∷ [])

pub books_after : (ask : Ask) (pass : Pass) (books : StampedBooks) → books_in (after_entry ask pass books) ≡ after_ask ask (books_in books)
books_after (Ask.Send A call) pass books = ap (λ b. record (books_in books) { send_a = b }) (entered sending.reply_to sending.after_call books.send_a pass call)
books_after (Ask.Send B call) pass books = ap (λ b. record (books_in books) { send_b = b }) (entered sending.reply_to sending.after_call books.send_b pass call)
books_after (Ask.Reassembly A call) pass books = ap (λ b. record (books_in books) { reassembly_a = b }) (entered arriving.reply_to arriving.after_call books.reassembly_a pass call)
books_after (Ask.Reassembly B call) pass books = ap (λ b. record (books_in books) { reassembly_b = b }) (entered arriving.reply_to arriving.after_call books.reassembly_b pass call)
books_after (Ask.Control A call) pass books = ap (λ b. record (books_in books) { control_a = b }) (entered controlling.reply_to control.after books.control_a pass call)
books_after (Ask.Control B call) pass books = ap (λ b. record (books_in books) { control_b = b }) (entered controlling.reply_to control.after books.control_b pass call)
books_after (Ask.Local step) pass books = refl
