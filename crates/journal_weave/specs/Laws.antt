-- The woven order makes of the world what was made.
use Rattle.std.specs.Prelude.{ℕ, ◌≡◌, List}
use Rattle.actor_desk.specs.Journals.{ArePaired, order_of}
use Rattle.path_core.specs.Codec.{Codec}
use Rattle.world_laws.specs.Fine.{lists_of}
use Rattle.world_laws.specs.StampedBooks.{journals_of}
use Rattle.world_laws.specs.Weaving.{AllStepped, Begins, BooksGrew, steps_by}
use Rattle.world_laws.specs.Worlds.{WorldState, AreLawful, world_run}

-- A round began with a stamp, the greatest so far; each actor made steps, each book took calls above that stamp, and lists and
-- journals are paired above it. Then the steps of the woven order are lawful, and drive the world at the round's beginning to
-- just those actors and books.
abbrev pub WovenOrderDoes : {C : Type 0} → Codec C → Type 0
WovenOrderDoes {C} k =
    (top : ℕ) (w v : WorldState C) (order : List ℕ) → Begins top w → AllStepped k w.crew v.crew → BooksGrew top w.books v.books
    → ArePaired top (lists_of v.crew) (journals_of v.books) → order ≡ order_of top (lists_of v.crew)
    → AreLawful k (steps_by order) w × (world_run k (steps_by order) w ≡ v)
