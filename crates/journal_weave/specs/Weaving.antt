-- What is woven of lists and journals.
use Rattle.std.specs.Prelude.{ℕ, suc, ◌≡◌, ◌==◌, Some, List, [], ◌∷◌, map, filter}
use Rattle.std.specs.List.{slice_get}
use Rattle.sides.specs.declared.side.Side.TheVariants.{A, B}
use Rattle.stream_lanes.specs.Words.{Every}
use Rattle.actor_desk.specs.declared.actor.Crew.{Crew}
use Rattle.actor_desk.specs.declared.ask.Ask.{Ask}
use Rattle.actor_desk.specs.declared.ask.Ask.TheVariants as asks
use Rattle.actor_desk.specs.declared.ask.Note.{Note}
use Rattle.world_laws.specs.Fine.{NotesRise}

-- ---- lists

abbrev pub lists_in : {A : Type 0} → List (Crew A) → List (List Note)
lists_in crew = map (λ c. c.list) crew

-- the actors' numbers are their places, from this one on: each note is of its own list's actor, and stamps rise in each list
abbrev pub AreOwn : ℕ → List (List Note) → Type 0
AreOwn first [] = Unit {0}
AreOwn first (list ∷ lists) = Every (λ note. note.actor ≡ first) list × NotesRise 0 list × AreOwn (suc first) lists

-- ---- journals

-- the place of the asked book among the six journals; none of them where nobody is asked
abbrev pub book_of : Ask → ℕ
book_of (asks.Send A call) = 0
book_of (asks.Send B call) = 1
book_of (asks.Reassembly A call) = 2
book_of (asks.Reassembly B call) = 3
book_of (asks.Control A call) = 4
book_of (asks.Control B call) = 5
book_of (asks.Local step) = 6

-- the notes of calls at one book
abbrev pub asked_at : ℕ → List Note → List Note
asked_at book notes = filter (λ note. book_of note.ask == book) notes

-- each book's notes of the order are its journal's
abbrev pub AreAllAsked : List Note → List (List Note) → Type 0
AreAllAsked order journals = (book : ℕ) (journal : List Note) → slice_get journals book ≡ Some journal → asked_at book order ≡ journal
