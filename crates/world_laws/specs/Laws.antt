-- What is promised of a connection over every list of turns.
use Rattle.std.specs.Prelude.{ℕ, ◌≡◌, ◌≤◌, true, Some, None, List, [], slice_get}
use Rattle.octet_text.specs.Prefix.{IsPrefix}
use Rattle.send_book.specs.State.{Sending}
use Rattle.stream_lanes.specs.Words.{Every}
use Rattle.actor_desk.specs.Books.{books_in}
use Rattle.path_core.specs.Codec.{Codec}
use Rattle.path_core.specs.Octets.{octets}
use Rattle.path_core.specs.Values.{Carried, values}
use Rattle.path_core.specs.Events.{next_event}
use Rattle.world_laws.specs.declared.member.Member.TheVariants.{App, Path}
use Rattle.world_laws.specs.Actors.{Actor, ActorCrew}
use Rattle.world_laws.specs.Fresh.{AreFresh, shown_world}
use Rattle.world_laws.specs.Openings.{PathPlan, Start, opened_world}
use Rattle.world_laws.specs.Serial.{IsSerial}
use Rattle.world_laws.specs.Worlds.{WorldState, Turn, world_run, AreLawful}

-- what a book has as written is a prefix of a file, and all of it where the book is closed
pub record WritesTheFile (file : List ℕ) (send : Sending) : Type 0 where
  pub prefix : IsPrefix send.written file
  pub whole : send.closed ≡ true → send.written ≡ file

pub record WritesTheFiles {C : Type 0} (start : Start) (w : WorldState C) : Type 0 where
  pub a : WritesTheFile start.file_a (books_in w.books).send_a
  pub b : WritesTheFile start.file_b (books_in w.books).send_b

-- where the turn of a path is over, no line, no copy and no timer is due before the round's end
abbrev pub IsDone : {C : Type 0} → Actor C → Type 0
IsDone (App a) = Unit {0}
IsDone (Path p) = p.agenda ≡ [] → next_event p ≡ None

pub record NothingDueIsLeft {C : Type 0} (w : WorldState C) : Type 0 where
  pub each : (actor : ℕ) (c : ActorCrew C) → slice_get w.crew actor ≡ Some c → IsDone c.member

-- on each path a segment is on its way for a tick at least, and a full one has a byte of payload at least
pub record CanRunPath (plan : PathPlan) : Type 0 where
  pub delay : 1 ≤ plan.delay
  pub payload : 29 ≤ plan.mss

pub record CanRun (start : Start) : Type 0 where
  pub paths : Every CanRunPath start.paths

module _ {C : Type 0} (k : Codec C) where
  -- P holds of a connection at every moment, in whatever order its actors go
  abbrev pub Always : (Start → WorldState C → Type 0) → Type 0
  Always P = (start : Start) (turns : List Turn) → P start (world_run k turns (opened_world start))

  -- there is one list of serial turns at most
  abbrev pub SerialIsOne : Type 0
  SerialIsOne = (w : WorldState C) (most : ℕ) (ts us : List Turn) → IsSerial k most ts w → IsSerial k most us w → ts ≡ us

  -- from each moment on, for every number of rounds, there are serial turns, and they are lawful: whatever the books answer,
  -- each turn of an actor ends
  abbrev pub SerialExists : Type 0
  SerialExists = Always (λ start w. CanRun start → (most : ℕ) → (turns : List Turn) × IsSerial k most turns w × AreLawful k turns w)

-- a world over octets is the world over segments as values, shown in octets, as long as its turns are fresh
abbrev pub OctetsDoAsValues : Type 0
OctetsDoAsValues = (turns : List Turn) (w : WorldState Carried) → AreFresh turns w
    → world_run octets turns (shown_world w) ≡ shown_world (world_run values turns w)

-- P holds of a connection over octets after every list of fresh turns
abbrev pub AfterFreshTurns : (WorldState (List ℕ) → Type 0) → Type 0
AfterFreshTurns P = (start : Start) (turns : List Turn) → AreFresh turns (opened_world start) → P (world_run octets turns (opened_world start))
