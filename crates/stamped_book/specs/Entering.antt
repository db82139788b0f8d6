-- A call that is entered: its stamp, its entry, and what it makes of the stamped book and of the pass.
use Rattle.std.specs.Prelude.{ℕ, ◌+◌, max, [], ◌∷◌, ◌++◌}
use Rattle.stamped_book.specs.declared.stamped.Entry.{Entry}
use Rattle.stamped_book.specs.declared.stamped.Pass.{Pass}
use Rattle.stamped_book.specs.Journal.{Journaled, book_of, last_stamp}

-- a pass that was told this stamp
abbrev pub raised : Pass → ℕ → Pass
raised pass stamp = record pass { stamp = max pass.stamp stamp }

-- a pass after a step that no book takes
abbrev pub gone_on : Pass → Pass
gone_on pass = record pass { stamp = pass.stamp + 1 }

module _ {O C R : Type 0} where
  -- one more than the greater of the book's last stamp, which is 0 for an empty journal, and what the asker has seen
  abbrev pub next_stamp : Journaled O C R → Pass → ℕ
  next_stamp stamped pass = max (last_stamp 0 stamped.journal) pass.stamp + 1

  -- the entry of a call
  abbrev pub entry_of : (O → C → R) → (O → C → O) → Journaled O C R → Pass → C → Entry C R
  entry_of reply_to after stamped pass call = record {
    stamp = next_stamp stamped pass;
    seen = pass.stamp;
    actor = pass.actor;
    call = call;
    reply = reply_to (book_of reply_to after stamped) call;
  }

  -- entering a call adds that one entry to the journal
  abbrev pub after_entering : (O → C → R) → (O → C → O) → Journaled O C R → Pass → C → Journaled O C R
  after_entering reply_to after stamped pass call =
      record stamped { journal = stamped.journal ++ entry_of reply_to after stamped pass call ∷ [] }
