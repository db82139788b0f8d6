-- What holds between each path and what a turn makes of it, with the books before the turn and after it.
use Rattle.std.specs.Prelude.{ℕ, ◌≡◌, Some, List, slice_get}
use Rattle.actor_desk.specs.declared.ask.Note.{Note}
use Rattle.actor_desk.specs.Books.{StampedBooks, books_in}
use Rattle.actor_desk.specs.Desk.{SixBooks}
use Rattle.path_core.specs.Codec.{Codec}
use Rattle.path_core.specs.State.{PathState}
use Rattle.world_laws.specs.declared.member.Member.TheVariants.{App, Path}
use Rattle.world_laws.specs.Actors.{Actor, ActorCrew}
use Rattle.world_laws.specs.Worlds.{WorldState, Turn, after_turn}

module _ {C : Type 0} where
  -- as the path becomes this actor, and its steps are these
  abbrev pub PathsBetween : (SixBooks → SixBooks → List Note → PathState C → PathState C → Type 0) → StampedBooks → StampedBooks → List Note → Actor C
      → Actor C → Type 0
  PathsBetween R books after steps (Path p) (Path q) = R (books_in books) (books_in after) steps p q
  PathsBetween R books after steps (App a) (App b) = Unit {0}
  PathsBetween R books after steps _ _ = ⊥

  -- by any turn
  abbrev pub EachPathBetween : Codec C → (SixBooks → SixBooks → List Note → PathState C → PathState C → Type 0) → Type 0
  EachPathBetween k R = (w : WorldState C) (turn : Turn) (actor : ℕ) (c : ActorCrew C) → slice_get w.crew actor ≡ Some c → let v = after_turn k turn w in
      (d : ActorCrew C) × (slice_get v.crew actor ≡ Some d) × PathsBetween R w.books v.books d.list c.member d.member
