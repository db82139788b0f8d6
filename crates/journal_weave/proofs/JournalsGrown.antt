-- What a journal gained in a round by threads: entries of calls above the stamp with which it began.
use Rattle.std.proofs.Common.{◌∙◌, ap, subst, ℕ, ◌<◌, List, [], ◌∷◌, ◌++◌}
use Rattle.stamped_book.specs.declared.stamped.Entry.{Entry}
use Rattle.stamped_book.specs.Journal.{Journaled, replay, IsJournal, last_stamp}
use Rattle.stream_lanes.specs.Words.{Every}
use Rattle.actor_turn.specs.Extending.{Extends}
use Rattle.world_laws.specs.Weaving.{AreEntries, JournalGrew}

module _ {O C R : Type 0} (reply_to : O → C → R) (after : O → C → O) where
  -- a journal behind its first entries
  rest_of : (book : O) (last : ℕ) (old more : List (Entry C R)) → IsJournal reply_to after book last (old ++ more)
      → IsJournal reply_to after (replay reply_to after book old) (last_stamp last old) more
  rest_of book last [] more h = h
  rest_of book last (e ∷ old) more h = rest_of (after book e.call) e.stamp old more h.3

  entries_of : (book : O) (last : ℕ) (entries : List (Entry C R)) → IsJournal reply_to after book last entries → AreEntries reply_to after book last entries
  entries_of book last [] h = tt
  entries_of book last (e ∷ entries) h = (h.0, h.1, entries_of (after book e.call) e.stamp entries h.3)

  abbrev journaled : O → List (Entry C R) → Journaled O C R
  journaled opening journal = record { opening = opening; journal = journal }

  -- a journal that goes on from another by entries above the stamp
  pub journal_grew : (top : ℕ) (old new : Journaled O C R) (x : Extends old new) → IsJournal reply_to after new.opening 0 new.journal
      → Every (λ (e : Entry C R). top < e.stamp) x.more → JournalGrew reply_to after top old new
  journal_grew top old new x is above = record {
    entries = x.more;
    is = ap (λ o. journaled o new.journal) x.opening ∙ ap (λ j. journaled old.opening j) x.journal;
    made = entries_of (replay reply_to after old.opening old.journal) (last_stamp 0 old.journal) x.more
        (rest_of old.opening 0 old.journal x.more
        (subst (λ j. IsJournal reply_to after old.opening 0 j) x.journal (subst (λ o. IsJournal reply_to after o 0 new.journal) x.opening is)));
    above = above;
  }
