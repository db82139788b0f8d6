-- A step of an actor with the books, and what it is answered.
use Rattle.std.specs.Prelude.{ℕ, ◌^◌, ◌<◌, ◌≡◌, Bool, true, false, Option, Some, None, List, slice_get}
use Rattle.actor_desk.specs.declared.ask.Ask.{Ask}
use Rattle.actor_desk.specs.declared.ask.Note.{Note}
use Rattle.path_core.specs.Octets.{octets}
use Rattle.stamped_book.specs.declared.stamped.Pass.{Pass}
use Rattle.world_laws.specs.Actors.{ActorCrew, member_asks}
use Rattle.actor_desk.specs.Books.{StampedBooks, after_entry}
use Rattle.world_laws.specs.Worlds.{WorldState, note_of, crew_after, is_going}
use Rattle.world_core.specs.declared.stepped.Stepped.{Stepped}
use Rattle.world_core.specs.declared.stepped.Stepped.TheVariants.{Made, Ended}

-- the note of the step that this ask makes
abbrev pub note_if : Option Ask → StampedBooks → Pass → Option Note
note_if None books pass = None
note_if (Some ask) books pass = Some (note_of books pass ask)

-- the actor after the step
abbrev pub crew_if : Option Ask → StampedBooks → ActorCrew (List ℕ) → ActorCrew (List ℕ)
crew_if None books c = c
crew_if (Some ask) books c = crew_after octets ask books c

-- the books after it
abbrev pub books_if : Option Ask → Pass → StampedBooks → StampedBooks
books_if None pass books = books
books_if (Some ask) pass books = after_entry ask pass books

abbrev pub note_by : Option (ActorCrew (List ℕ)) → StampedBooks → Option Note
note_by None books = None
note_by (Some c) books = note_if (member_asks octets c.member) books c.pass

-- the note of the step that this actor makes now; none where its turn ended
abbrev pub next_note : ℕ → WorldState (List ℕ) → Option Note
next_note actor w = note_by (slice_get w.crew actor) w.books

-- an actor's step was made, with its note, or its turn had ended
abbrev pub stepped_by : Option Note → Stepped
stepped_by None = Ended
stepped_by (Some note) = Made note

abbrev pub is_made : Stepped → Bool
is_made Ended = false
is_made (Made note) = true

-- ---- stamps

abbrev pub stamp_or : Option (ActorCrew (List ℕ)) → ℕ
stamp_or None = 0
stamp_or (Some c) = c.pass.stamp

-- the greatest stamp that the actor knows
abbrev pub stamp_at : ℕ → WorldState (List ℕ) → ℕ
stamp_at actor w = stamp_or (slice_get w.crew actor)

-- from one stamp to a greater one below 2^62
pub record GoesUp (before after : ℕ) : Type 0 where
  pub more : before < after
  pub small : after < 2 ^ 62

-- where the actor went, its stamp rose, and is below 2^62
abbrev pub StampRises : ℕ → WorldState (List ℕ) → WorldState (List ℕ) → Type 0
StampRises actor w v = is_going actor w ≡ true → GoesUp (stamp_at actor w) (stamp_at actor v)
