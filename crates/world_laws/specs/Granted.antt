-- How often a byte is granted to a path, by the steps of all actors.
use Rattle.std.specs.Prelude.{ℕ, ◌≤◌, Bool, false, ◌&&◌, List, count_by, sum_by}
use Rattle.sides.specs.declared.side.Side.{Side}
use Rattle.sides.specs.declared.side.Side.TheVariants.{A, B}
use Rattle.send_book.specs.Laws.{is_asked_by, covers as grants_place}
use Rattle.actor_desk.specs.declared.ask.Ask.{Ask}
use Rattle.actor_desk.specs.declared.ask.Ask.TheVariants as asks
use Rattle.actor_desk.specs.declared.ask.Note.{Note}
use Rattle.actor_desk.specs.declared.ask.Reply.{Reply}
use Rattle.actor_desk.specs.declared.ask.Reply.TheVariants as replies
use Rattle.world_laws.specs.Actors.{ActorCrew}
use Rattle.world_laws.specs.Worlds.{WorldState}

-- bytes of this side's stream are asked for this path
abbrev pub asks_for : Side → ℕ → Ask → Bool
asks_for A path (asks.Send A call) = is_asked_by path call
asks_for B path (asks.Send B call) = is_asked_by path call
asks_for s path ask = false

-- the byte at this place is granted
abbrev pub gives : ℕ → Reply → Bool
gives place (replies.Send reply) = grants_place place reply
gives place reply = false

-- the step grants the byte at this place of a side's stream to this path
abbrev pub grants_byte : Side → ℕ → ℕ → Note → Bool
grants_byte s path place note = asks_for s path note.ask && gives place note.reply

module _ {C : Type 0} where
  -- how many steps of these actors do
  abbrev pub times_granted : Side → ℕ → ℕ → List (ActorCrew C) → ℕ
  times_granted s path place crew = sum_by (λ c. count_by (grants_byte s path place) c.list) crew

  -- each byte of each stream was granted to each path once at most
  abbrev pub GrantedOnce : WorldState C → Type 0
  GrantedOnce w = (s : Side) (path place : ℕ) → times_granted s path place w.crew ≤ 1
