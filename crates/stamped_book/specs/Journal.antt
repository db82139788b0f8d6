-- Journals: lists of entries that a book took one after the other, from the book that it was opened with.
use Rattle.std.specs.Prelude.{◌≡◌, ℕ, ◌+◌, ◌^◌, ◌<◌, max, List, [], ◌∷◌}
use Rattle.stamped_book.specs.declared.stamped.Entry.{Entry}

-- a stamped book by what it means: the book that it was opened with, and every entry since
pub record Journaled (O C R : Type 0) : Type 0 where
  pub opening : O
  pub journal : List (Entry C R)

module _ {O C R : Type 0} (reply_to : O → C → R) (after : O → C → O) where
  -- the book after the calls of these entries
  abbrev pub replay : O → List (Entry C R) → O
  replay book [] = book
  replay book (entry ∷ entries) = replay (after book entry.call) entries

  -- What a journal is, from a book and a stamp on: each reply is the one that the book gives there, and each stamp is
  -- one more than the greater of what its asker had seen and the stamp before it, and below 2^62.
  abbrev pub IsJournal : O → ℕ → List (Entry C R) → Type 0
  IsJournal book last [] = Unit {0}
  IsJournal book last (entry ∷ entries) =
      (entry.reply ≡ reply_to book entry.call) × (entry.stamp ≡ max last entry.seen + 1) × (entry.stamp < 2 ^ 62)
      × IsJournal (after book entry.call) entry.stamp entries

  -- a book is what its journal makes of the one that it was opened with, whose journal begins at stamp 0
  pub record IsReplay (opening : O) (journal : List (Entry C R)) (book : O) : Type 0 where
    pub is_journal : IsJournal opening 0 journal
    pub book_is : book ≡ replay opening journal

  -- the book of a stamped book
  abbrev pub book_of : Journaled O C R → O
  book_of stamped = replay stamped.opening stamped.journal

module _ {C R : Type 0} where
  -- the stamp of the last entry, or this one where there is none
  abbrev pub last_stamp : ℕ → List (Entry C R) → ℕ
  last_stamp before [] = before
  last_stamp before (entry ∷ entries) = last_stamp entry.stamp entries

  -- each stamp is greater than the one before it, from this one on
  abbrev pub Rise : ℕ → List (Entry C R) → Type 0
  Rise before [] = Unit {0}
  Rise before (entry ∷ entries) = (before < entry.stamp) × Rise entry.stamp entries
