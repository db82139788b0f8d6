-- What an entered call leaves: books within bounds, and one note more.
use Rattle.std.proofs.Common.{◌≡◌, sym, ap, subst, false, [], ◌∷◌, Some, Result, Ok, Err}
use Rattle.std.proofs.lemmas.List.{map-append}
use Rattle.std.specs.Prelude.{IfOk, OnOk, OnErr}
use Rattle.sides.specs.declared.side.Side.TheVariants.{A, B}
use Rattle.stamped_book.specs.declared.stamped.Pass.{Pass}
use Rattle.stamped_book.specs.declared.stamped.Refusal.{Refusal}
use Rattle.stamped_book.specs.Journal.{Journaled, book_of}
use Rattle.stamped_book.specs.Entering.{entry_of, after_entering}
use Rattle.stamped_book.proofs.Journals.{replay-append}
use Rattle.send_book.specs.declared.call.SendCall.{SendCall}
use Rattle.send_book.specs.declared.call.SendReply.{SendReply}
use Rattle.send_book.specs.Steps as sending
use Rattle.reassembly_book.specs.declared.call.ReassemblyCall.{ReassemblyCall}
use Rattle.reassembly_book.specs.declared.call.ReassemblyReply.{ReassemblyReply}
use Rattle.reassembly_book.specs.Steps as arriving
use Rattle.control_book.specs.declared.call.ControlCall.{ControlCall}
use Rattle.control_book.specs.declared.call.ControlReply.{ControlReply}
use Rattle.control_book.specs.Calls.{can_ask}
use Rattle.control_book.specs.Laws.{RowsAreRight}
use Rattle.control_book.specs.Replies as controlling
use Rattle.control_book.specs.Steps as control
use Rattle.control_book.proofs.RowsRight.{right_once}
use Rattle.actor_desk.specs.declared.ask.Ask.{Ask}
use Rattle.actor_desk.specs.declared.ask.Reply.{Reply}
use Rattle.actor_desk.specs.Books.{StampedBooks, SendJournal, ReassemblyJournal, ControlJournal, books_in, after_entry, stamp_of}
use Rattle.actor_desk.specs.Bounds.{IsWrittenSmall, IsReceivedSmall}
use Rattle.actor_desk.specs.Desk.{reply_of}
use Rattle.actor_desk.specs.Journals.{is_local, send_note, reassembly_note, control_note}
use Rattle.actor_desk.specs.Noted.{notes_in, note_of, with_note, noted}
use Rattle.actor_desk.proofs.Small.{written_small, received_small}

-- what holds of a reply that was told holds of the one that was given
pub if_told : {X E : Type 0} (r : Result X E) (told : X) (P : X → Type 0) → IfOk r (λ x. x ≡ told) → P told → IfOk r P
if_told (Ok x) told P is holds = subst P (sym is) holds
if_told (Err e) told P is holds = tt

-- ---- bounds

-- what a call keeps of a book is kept where it is entered, and where it is refused
entered : {O C R E : Type 0} (reply_to : O → C → R) (after : O → C → O) (P : O → Type 0) (s t : Journaled O C R) (pass : Pass) (call : C) (r : Result R E)
    → P (book_of reply_to after s) → P (after (book_of reply_to after s) call) → OnOk r (t ≡ after_entering reply_to after s pass call) → OnErr r (t ≡ s)
    → P (book_of reply_to after t)
entered reply_to after P s t pass call (Ok reply) now later ok err =
    subst (λ u. P (book_of reply_to after u)) (sym ok)
    (subst P (sym (replay-append reply_to after s.opening s.journal (entry_of reply_to after s pass call ∷ []))) later)
entered reply_to after P s t pass call (Err refusal) now later ok err = subst (λ u. P (book_of reply_to after u)) (sym err) now

pub send_entered : (s t : SendJournal) (pass : Pass) (call : SendCall) (r : Result SendReply Refusal) → IsWrittenSmall (book_of sending.reply_to sending.after_call s)
    → OnOk r (t ≡ after_entering sending.reply_to sending.after_call s pass call) → OnErr r (t ≡ s)
    → IsWrittenSmall (book_of sending.reply_to sending.after_call t)
send_entered s t pass call r small ok err =
    entered sending.reply_to sending.after_call IsWrittenSmall s t pass call r small (written_small _ call small) ok err

pub reassembly_entered : (s t : ReassemblyJournal) (pass : Pass) (call : ReassemblyCall) (r : Result ReassemblyReply Refusal)
    → IsReceivedSmall (book_of arriving.reply_to arriving.after_call s) → arriving.CanAsk call
    → OnOk r (t ≡ after_entering arriving.reply_to arriving.after_call s pass call) → OnErr r (t ≡ s)
    → IsReceivedSmall (book_of arriving.reply_to arriving.after_call t)
reassembly_entered s t pass call r small can ok err =
    entered arriving.reply_to arriving.after_call IsReceivedSmall s t pass call r small (received_small _ call small can) ok err

pub control_entered : (s t : ControlJournal) (pass : Pass) (call : ControlCall) (r : Result ControlReply Refusal)
    → RowsAreRight (book_of controlling.reply_to control.after s).paths → can_ask call
    → OnOk r (t ≡ after_entering controlling.reply_to control.after s pass call) → OnErr r (t ≡ s)
    → RowsAreRight (book_of controlling.reply_to control.after t).paths
control_entered s t pass call r right can ok err =
    entered controlling.reply_to control.after (λ b. RowsAreRight b.paths) s t pass call r right (right_once (book_of controlling.reply_to control.after s) call can right) ok err

-- ---- notes

pub note_entered : (x : Ask) (pass : Pass) (b : StampedBooks) → is_local x ≡ false
    → notes_in (after_entry x pass b) ≡ with_note x (note_of pass (record pass { stamp = stamp_of x b pass }) x (reply_of (books_in b) x)) (notes_in b)
note_entered (Ask.Send A call) pass b book =
    ap (λ notes. record (notes_in b) { send_a = notes })
    (map-append (send_note A) b.send_a.journal (entry_of sending.reply_to sending.after_call b.send_a pass call ∷ []))
note_entered (Ask.Send B call) pass b book =
    ap (λ notes. record (notes_in b) { send_b = notes })
    (map-append (send_note B) b.send_b.journal (entry_of sending.reply_to sending.after_call b.send_b pass call ∷ []))
note_entered (Ask.Reassembly A call) pass b book =
    ap (λ notes. record (notes_in b) { reassembly_a = notes })
    (map-append (reassembly_note A) b.reassembly_a.journal (entry_of arriving.reply_to arriving.after_call b.reassembly_a pass call ∷ []))
note_entered (Ask.Reassembly B call) pass b book =
    ap (λ notes. record (notes_in b) { reassembly_b = notes })
    (map-append (reassembly_note B) b.reassembly_b.journal (entry_of arriving.reply_to arriving.after_call b.reassembly_b pass call ∷ []))
note_entered (Ask.Control A call) pass b book =
    ap (λ notes. record (notes_in b) { control_a = notes })
    (map-append (control_note A) b.control_a.journal (entry_of controlling.reply_to control.after b.control_a pass call ∷ []))
note_entered (Ask.Control B call) pass b book =
    ap (λ notes. record (notes_in b) { control_b = notes })
    (map-append (control_note B) b.control_b.journal (entry_of controlling.reply_to control.after b.control_b pass call ∷ []))
note_entered (Ask.Local step) pass b book = cc

pub call_noted : (r : Result Reply Refusal) (x : Ask) (before after : Pass) (b t : StampedBooks) → is_local x ≡ false
    → IfOk r (λ y. y ≡ reply_of (books_in b) x) → OnOk r (t ≡ after_entry x before b) → OnOk r (after ≡ record before { stamp = stamp_of x b before })
    → IfOk r (λ y. Some (notes_in t) ≡ noted (Some (notes_in b)) (note_of before after x y))
call_noted (Ok y) x before after b t book told ok pass = rw (told, ok, pass) (ap Some (note_entered x before b book))
call_noted (Err refusal) x before after b t book told ok pass = tt
