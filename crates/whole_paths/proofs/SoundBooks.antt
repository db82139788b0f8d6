-- No byte of a reassembly book lies past what is taken, whatever is asked.
use Rattle.std.proofs.Common.{ℕ, ◌≤◌, arith, Option, Some, None, List, [], ◌∷◌, length}
use Rattle.sides.specs.declared.side.Side.{Side}
use Rattle.sides.specs.declared.side.Side.TheVariants.{A, B}
use Rattle.reassembly_book.specs.State.{Arriving, IsSound, filled, received}
use Rattle.reassembly_book.specs.Steps as arriving
use Rattle.reassembly_book.proofs.Bounds.{sound-after_call, sound-opened}
use Rattle.actor_desk.specs.declared.ask.Ask.{Ask}
use Rattle.actor_desk.specs.Books.{books_in}
use Rattle.actor_desk.specs.Desk.{SixBooks, after_ask, reassembly_of}
use Rattle.path_core.specs.Values.{Carried}
use Rattle.world_laws.specs.Openings.{Start, opened_world}

pub record BooksAreSound (six : SixBooks) : Type 0 where
  pub each : (s : Side) → IsSound (reassembly_of s six)

-- what is received lies below the book's edge
abbrev pub BooksHold : SixBooks → Type 0
BooksHold six = (s : Side) → received (reassembly_of s six) ≤ arriving.edge (reassembly_of s six)

filled_few : (places : List (Option ℕ)) → length (filled places) ≤ length places
filled_few [] = omega arith
filled_few (None ∷ places) = omega arith
filled_few (Some byte ∷ places) = (let rest = filled_few places in omega (arith, rest))

pub sound_holds : (six : SixBooks) → BooksAreSound six → BooksHold six
sound_holds six sound s = low (reassembly_of s six) (sound.each s)
  where
    low : (b : Arriving) → IsSound b → received b ≤ arriving.edge b
    low b sound = (let fits = sound.fits in let few = filled_few b.places in omega (arith, fits, few))

asked_sound : (x : Ask) (six : SixBooks) → ((s : Side) → IsSound (reassembly_of s six)) → (s : Side) → IsSound (reassembly_of s (after_ask x six))
asked_sound (Ask.Reassembly A call) six h A = sound-after_call call six.reassembly_a (h A)
asked_sound (Ask.Reassembly B call) six h B = sound-after_call call six.reassembly_b (h B)
asked_sound (Ask.Reassembly A call) six h B = h B
asked_sound (Ask.Reassembly B call) six h A = h A
asked_sound (Ask.Send A call) six h s = h s
asked_sound (Ask.Send B call) six h s = h s
asked_sound (Ask.Control A call) six h s = h s
asked_sound (Ask.Control B call) six h s = h s
asked_sound (Ask.Local step) six h s = h s

pub sound_asked : (x : Ask) (six : SixBooks) → BooksAreSound six → BooksAreSound (after_ask x six)
sound_asked x six h = record { each = asked_sound x six h.each }

-- the books as a connection begins
pub sound_first : (start : Start) → BooksAreSound (books_in (opened_world {C = Carried} start).books)
sound_first start = record { each = elim [ A ↦ sound-opened start.buffer | B ↦ sound-opened start.buffer ] }
