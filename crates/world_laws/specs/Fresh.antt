-- Lists of turns in which each copy that arrives is fresh: it can be said, and its numbers are near those that its end expects,
-- but for the position of a reset far ahead. And each segment that is altered on its way can be said.
use Rattle.std.specs.Prelude.{ℕ, Option, Some, None, List, [], ◌∷◌, slice_get, map}
use Rattle.path_core.specs.State.{PathState}
use Rattle.path_core.specs.Shown.{shown_path, NextIsFresh, SentCanBeAltered}
use Rattle.path_core.specs.Values.{Carried, values}
use Rattle.world_laws.specs.declared.member.Member.TheVariants.{App, Path}
use Rattle.world_laws.specs.Actors.{Actor, ActorCrew}
use Rattle.world_laws.specs.Worlds.{WorldState, Turn, after_turn}

-- the copy that is due next is fresh, and the segment that is sent next can be said, where its payload is altered on its way
pub record IsFreshPath (p : PathState Carried) : Type 0 where
  pub next : NextIsFresh p
  pub sent : SentCanBeAltered p

-- an application hears no copy and sends no segment
abbrev pub IsFreshMember : Actor Carried → Type 0
IsFreshMember (App a) = Unit {0}
IsFreshMember (Path p) = IsFreshPath p

abbrev pub IsFreshCrew : Option (ActorCrew Carried) → Type 0
IsFreshCrew None = Unit {0}
IsFreshCrew (Some c) = IsFreshMember c.member

-- of a step: for the actor that makes it
abbrev pub IsFreshTurn : Turn → WorldState Carried → Type 0
IsFreshTurn (Turn.Step actor) w = IsFreshCrew (slice_get w.crew actor)
IsFreshTurn Turn.Round w = Unit {0}

-- each turn is fresh in the world that those before it lead to
abbrev pub AreFresh : List Turn → WorldState Carried → Type 0
AreFresh [] w = Unit {0}
AreFresh (turn ∷ turns) w = IsFreshTurn turn w × AreFresh turns (after_turn values turn w)

-- ---- a world over segments as values, shown over octets

abbrev pub shown_member : Actor Carried → Actor (List ℕ)
shown_member (App a) = App a
shown_member (Path p) = Path (shown_path p)

abbrev pub shown_crew : ActorCrew Carried → ActorCrew (List ℕ)
shown_crew c = record { member = shown_member c.member; pass = c.pass; list = c.list; refused = c.refused }

abbrev pub shown_world : WorldState Carried → WorldState (List ℕ)
shown_world w = record { crew = map shown_crew w.crew; books = w.books }
