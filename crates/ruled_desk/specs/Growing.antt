-- A journal that gains entries.
use Rattle.std.specs.Prelude.{◌≡◌, ◌⊎◌, List, [], ◌∷◌, ◌++◌}
use Rattle.stamped_book.specs.Journal.{Journaled}
use Rattle.stamped_book.specs.declared.stamped.Entry.{Entry}
use Rattle.stamped_book.specs.declared.stamped.Pass.{Pass}

module _ {C R : Type 0} where
  -- the entry of a call, from the asker's pass before and after it
  abbrev pub entry_by : Pass → Pass → C → R → Entry C R
  entry_by before after call reply = record { stamp = after.stamp; seen = before.stamp; actor = before.actor; call = call; reply = reply }

  -- an entry has the last stamp that there is, 2^62 - 1
  abbrev pub HasLastStamp : List (Entry C R) → Type 0
  HasLastStamp [] = ⊥
  HasLastStamp (entry ∷ entries) = (entry.stamp ≡ 4611686018427387903) ⊎ HasLastStamp entries

-- the book with so many entries more in its journal
abbrev pub grown : {O C R : Type 0} → Journaled O C R → List (Entry C R) → Journaled O C R
grown start log = record { opening = start.opening; journal = start.journal ++ log }
