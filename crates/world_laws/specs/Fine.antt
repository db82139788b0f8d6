-- What holds of the lists and journals of each world: they are paired at every stamp, stamps rise in each, and they are chained
-- above the greatest stamp at the last round's end (L. Lamport, 'Time, clocks, and the ordering of events', 1978).
use Rattle.std.specs.Prelude.{ℕ, ◌≡◌, ◌+◌, ◌<◌, ◌≤◌, max, if◌then◌else◌, None, List, [], ◌∷◌, ◌++◌, map}
use Rattle.stamped_book.specs.declared.stamped.Entry.{Entry}
use Rattle.stream_lanes.specs.Words.{Every, From}
use Rattle.actor_desk.specs.declared.ask.Note.{Note}
use Rattle.actor_desk.specs.Journals.{AreChained, ArePaired}
use Rattle.world_laws.specs.Actors.{ActorCrew}
use Rattle.actor_desk.specs.Books.{StampedBooks}
use Rattle.world_laws.specs.StampedBooks.{journals_of}
use Rattle.world_laws.specs.Worlds.{WorldState, Turn, all_over, greatest}

-- each stamp is greater than the one before it, from this one on
abbrev pub NotesRise : ℕ → List Note → Type 0
NotesRise before [] = Unit {0}
NotesRise before (note ∷ notes) = (before < note.stamp) × NotesRise note.stamp notes

-- the stamp of the last note, or this one where there is none
abbrev pub last_noted : ℕ → List Note → ℕ
last_noted before [] = before
last_noted before (note ∷ notes) = last_noted note.stamp notes

-- each stamp is one more than the greater of the one before it and of what the asker had seen
abbrev pub AreStamped : {C R : Type 0} → ℕ → List (Entry C R) → Type 0
AreStamped last [] = Unit {0}
AreStamped last (entry ∷ entries) = (entry.stamp ≡ max last entry.seen + 1) × AreStamped entry.stamp entries

-- in the journal of each book a stamp is one more than the greater of the one before it and of what the asker had seen
pub record BooksAreStamped (books : StampedBooks) : Type 0 where
  pub send_a : AreStamped 0 books.send_a.journal
  pub send_b : AreStamped 0 books.send_b.journal
  pub reassembly_a : AreStamped 0 books.reassembly_a.journal
  pub reassembly_b : AreStamped 0 books.reassembly_b.journal
  pub control_a : AreStamped 0 books.control_a.journal
  pub control_b : AreStamped 0 books.control_b.journal

-- The notes up to a stamp, and those after it, which are chained from that stamp on: each has seen the stamp before it, and
-- one of a local step is one more.
pub record IsChainedAbove (top known : ℕ) (notes : List Note) : Type 0 where
  pub earlier : List Note
  pub later : List Note
  pub parts : notes ≡ earlier ++ later
  pub below : Every (λ note. note.stamp ≤ top) earlier
  pub chained : AreChained top later
  -- the actor knows the stamp of its last note
  pub known_is : known ≡ last_noted top later

-- an actor with its number
pub record IsFineCrew {C : Type 0} (top number : ℕ) (c : ActorCrew C) : Type 0 where
  pub numbered : c.pass.actor ≡ number
  pub ours : Every (λ note. note.actor ≡ number) c.list
  pub rises : NotesRise 0 c.list
  pub known : last_noted 0 c.list ≤ c.pass.stamp
  pub chained : IsChainedAbove top c.pass.stamp c.list
  pub unrefused : c.refused ≡ None

module _ {C : Type 0} where
  -- the steps of each actor
  abbrev pub lists_of : List (ActorCrew C) → List (List Note)
  lists_of crew = map (λ c. c.list) crew

  -- where this was the greatest stamp at the last round's end
  pub record IsFine (top : ℕ) (w : WorldState C) : Type 0 where
    pub crew : From (IsFineCrew top) 0 w.crew
    pub journals : BooksAreStamped w.books
    pub paired : (after : ℕ) → ArePaired after (lists_of w.crew) (journals_of w.books)

  -- what that stamp is after a turn in this world
  abbrev pub top_after : Turn → WorldState C → ℕ → ℕ
  top_after (Turn.Step actor) w top = top
  top_after Turn.Round w top = if all_over w.crew then greatest 0 w.crew else top
