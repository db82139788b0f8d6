-- The world of a connection: its actors and the books, and what each step of an actor and each end of a round makes of them.
use Rattle.std.specs.Prelude.{ℕ, zero, suc, ◌≡◌, max, Bool, true, false, not, ◌&&◌, if◌then◌else◌, Option, Some, None, List, [], ◌∷◌, ◌++◌, map, slice_get, slice_set}
use Rattle.stamped_book.specs.declared.stamped.Pass.{Pass}
use Rattle.stamped_book.specs.Entering.{raised}
use Rattle.actor_desk.specs.declared.ask.Ask.{Ask}
use Rattle.actor_desk.specs.declared.ask.Note.{Note}
use Rattle.path_core.specs.Codec.{Codec}
use Rattle.world_laws.specs.Actors.{ActorCrew, member_asks, member_takes, member_next, is_over}
use Rattle.actor_desk.specs.Books.{StampedBooks, stamp_of, after_entry}
use Rattle.world_laws.specs.StampedBooks.{answer_to}

-- the actor of the number n is the n-th of the crew, the first being 0
pub record WorldState (C : Type 0) : Type 0 where
  pub crew : List (ActorCrew C)
  pub books : StampedBooks

-- a step of an actor, or the end of a round
pub data Turn : Type 0 where
  Step : (actor : ℕ) → Turn
  Round : Turn

-- ---- a step

-- the step as it is noted
abbrev pub note_of : StampedBooks → Pass → Ask → Note
note_of books pass ask = record {
  stamp = stamp_of ask books pass;
  seen = pass.stamp;
  actor = pass.actor;
  ask = ask;
  reply = answer_to books ask;
}

module _ {C : Type 0} where
  -- the actor notes the step and takes the reply
  abbrev pub crew_after : Codec C → Ask → StampedBooks → ActorCrew C → ActorCrew C
  crew_after k ask books c = record c {
    member = member_takes k (answer_to books ask) c.member;
    pass = record c.pass { stamp = stamp_of ask books c.pass };
    list = c.list ++ note_of books c.pass ask ∷ [];
  }

  -- where its turn ended nothing changes
  abbrev pub asked : Codec C → ℕ → Option Ask → ActorCrew C → WorldState C → WorldState C
  asked k actor None c w = w
  asked k actor (Some ask) c w =
      record { crew = slice_set w.crew actor (crew_after k ask w.books c); books = after_entry ask c.pass w.books }

  abbrev pub stepped : Codec C → ℕ → Option (ActorCrew C) → WorldState C → WorldState C
  stepped k actor None w = w
  stepped k actor (Some c) w = asked k actor (member_asks k c.member) c w

  -- one step of an actor
  abbrev pub world_step : Codec C → ℕ → WorldState C → WorldState C
  world_step k actor w = stepped k actor (slice_get w.crew actor) w

  abbrev pub goes : Option (ActorCrew C) → Bool
  goes None = false
  goes (Some c) = not (is_over c.member)

  -- there is such an actor, and its turn hasn't ended
  abbrev pub is_going : ℕ → WorldState C → Bool
  is_going actor w = goes (slice_get w.crew actor)

  -- ---- the end of a round

  -- each turn ended
  abbrev pub all_over : List (ActorCrew C) → Bool
  all_over [] = true
  all_over (c ∷ crew) = is_over c.member && all_over crew

  -- the greatest stamp that an actor knows
  abbrev pub greatest : ℕ → List (ActorCrew C) → ℕ
  greatest known [] = known
  greatest known (c ∷ crew) = greatest (max known c.pass.stamp) crew

  -- an actor begins a round, and knows this stamp
  abbrev pub begins : ℕ → ActorCrew C → ActorCrew C
  begins stamp c = record c { member = member_next c.member; pass = raised c.pass stamp }

  -- where each turn ended the next round begins, and each actor knows all stamps so far; else nothing changes
  abbrev pub end_round : WorldState C → WorldState C
  end_round w = if all_over w.crew then record w { crew = map (begins (greatest 0 w.crew)) w.crew } else w

  -- ---- turns

  abbrev pub after_turn : Codec C → Turn → WorldState C → WorldState C
  after_turn k (Turn.Step actor) w = world_step k actor w
  after_turn k Turn.Round w = end_round w

  -- the world after these turns, the first one first
  abbrev pub world_run : Codec C → List Turn → WorldState C → WorldState C
  world_run k [] w = w
  world_run k (turn ∷ turns) w = world_run k turns (after_turn k turn w)

  -- an actor whose turn hasn't ended makes the step; each turn ended where the round does
  abbrev pub IsLawfulTurn : Turn → WorldState C → Type 0
  IsLawfulTurn (Turn.Step actor) w = is_going actor w ≡ true
  IsLawfulTurn Turn.Round w = all_over w.crew ≡ true

  -- each turn is lawful in the world that those before it lead to
  abbrev pub AreLawful : Codec C → List Turn → WorldState C → Type 0
  AreLawful k [] w = Unit {0}
  AreLawful k (turn ∷ turns) w = IsLawfulTurn turn w × AreLawful k turns (after_turn k turn w)

  -- The steps in this order, up to the first that no actor can make: so many were made, and this is the world after them.
  abbrev pub RunTo : Codec C → List ℕ → ℕ → WorldState C → WorldState C → Type 0
  RunTo k [] count w v = (count ≡ 0) × (v ≡ w)
  RunTo k (actor ∷ order) zero w v = (is_going actor w ≡ false) × (v ≡ w)
  RunTo k (actor ∷ order) (suc count) w v = (is_going actor w ≡ true) × RunTo k order count (world_step k actor w) v
