-- What is done by the end of a round, in numbers of what stood as it began.
use Rattle.std.specs.Prelude.{ℕ, ◌≡◌, ◌+◌, ◌≤◌, ◌⊎◌, min, ◌&&◌, nat_lt, if◌then◌else◌, Bool, true, false, Some, List, [], ◌∷◌, length, map, drop, slice_get}
use Rattle.std.specs.List.{list_any, position_or_len}
use Rattle.sides.specs.declared.side.Side.{Side}
use Rattle.sides.specs.declared.side.Side.TheVariants.{A, B}
use Rattle.send_book.specs.declared.call.SendCall.TheVariants as send_calls
use Rattle.send_book.specs.declared.call.SendReply.TheVariants as send_replies
use Rattle.send_book.specs.declared.mark.ByteMark.{ByteMark}
use Rattle.send_book.specs.Marks.{is_free_for}
use Rattle.send_book.specs.State.{Sending}
use Rattle.send_book.specs.Steps.{is_for}
use Rattle.reassembly_book.specs.State.{received}
use Rattle.actor_desk.specs.declared.ask.Ask.{Ask}
use Rattle.actor_desk.specs.declared.ask.Ask.TheVariants as asks
use Rattle.actor_desk.specs.declared.ask.Note.{Note}
use Rattle.actor_desk.specs.declared.ask.Reply.{Reply}
use Rattle.actor_desk.specs.declared.ask.Reply.TheVariants as replies
use Rattle.actor_desk.specs.Words.{pick}
use Rattle.path_core.specs.Codec.{Codec}
use Rattle.path_core.specs.Emission.{may_ask}
use Rattle.path_core.specs.State.{PathState, end_at, path_of}
use Rattle.world_laws.specs.declared.member.Member.TheVariants.{App, Path}
use Rattle.world_laws.specs.Actors.{Actor, ActorCrew}
use Rattle.world_laws.specs.Openings.{Start, opened_world}
use Rattle.world_laws.specs.Outcomes.{was_told, tells_stop, notes_at, notes_of, output_of}
use Rattle.world_laws.specs.Promises.{arrived_at, written_by}
use Rattle.world_laws.specs.RoundEnd.{asks_grant, last_refused}
use Rattle.world_laws.specs.Worlds.{WorldState, Turn, all_over, is_going, end_round, world_run}

-- ---- what a path was granted

-- how many bytes stand before the first one that this path may still take
abbrev pub taken_len : ℕ → List ByteMark → ℕ
taken_len path marks = position_or_len (is_free_for path) marks

-- the path asks for bytes while it is on standby
abbrev pub is_standby : Ask → Bool
is_standby (asks.Send s (send_calls.Grant path max standby)) = standby
is_standby _ = false

-- after a step: whether bytes were asked for last while on standby
abbrev pub standby_after : Side → Note → Bool → Bool
standby_after s note before = if asks_grant s note.ask then is_standby note.ask else before

-- of these steps, where this was so before
abbrev pub last_on_standby : Side → Bool → List Note → Bool
last_on_standby s before [] = before
last_on_standby s before (note ∷ notes) = last_on_standby s (standby_after s note before) notes

-- the stamp of the last of these steps that asked for bytes of this side's stream, or this stamp
abbrev pub last_asked : Side → ℕ → List Note → ℕ
last_asked s stamp [] = stamp
last_asked s stamp (note ∷ notes) =
    last_asked s (if asks_grant s note.ask then note.stamp else stamp) notes

-- Of so many bytes none below the edge of the peer's window is left that the path may take; or when it asked for bytes last, in
-- these steps, it was on standby; or the book gives bytes to another path alone, as after a fallback, or to none, as the connection
-- was stopped there.
pub data AskedForAll (path : ℕ) (s : Side) (steps : List Note) (written : ℕ) (book : Sending) : Type 0 where
  Taken : min written book.edge ≤ taken_len path book.marks → AskedForAll path s steps written book
  Standby : last_on_standby s false steps ≡ true → AskedForAll path s steps written book
  Barred : is_for path book.owner ≡ false → AskedForAll path s steps written book
  Stopped : book.aborted ≡ true → AskedForAll path s steps written book

-- bytes were given back
abbrev pub gives_back : Reply → Bool
gives_back (replies.Send (send_replies.Returned bytes)) = nat_lt 0 bytes
gives_back _ = false

-- More may be left to be taken of this side's stream by this ask of another path, with its reply: its peer's window reaches past this
-- edge, or bytes are given back.
abbrev pub frees_bytes : Side → ℕ → Ask → Reply → Bool
frees_bytes A edge (asks.Send A (send_calls.AckIn next window)) reply = nat_lt edge (next + window)
frees_bytes A edge (asks.Send A (send_calls.Return path)) reply = gives_back reply
frees_bytes B edge (asks.Send B (send_calls.AckIn next window)) reply = nat_lt edge (next + window)
frees_bytes B edge (asks.Send B (send_calls.Return path)) reply = gives_back reply
frees_bytes _ edge _ reply = false

-- a note after this stamp tells of more that may be left to be taken of the side's stream
abbrev pub frees_after : Side → ℕ → ℕ → Note → Bool
frees_after s stamp edge note = nat_lt stamp note.stamp && frees_bytes s edge note.ask note.reply

-- ---- rounds

module _ {C : Type 0} where
  module _ (k : Codec C) where
    -- the world after a step of each of these actors, the first one first
    abbrev pub after_steps : List ℕ → WorldState C → WorldState C
    after_steps order w = world_run k (map (λ actor. Turn.Step actor) order) w

    -- A round begins in this world: it is the opened one, or each turn was over and the round before it ended.
    pub data BeginsRound (start : Start) (w : WorldState C) : Type 0 where
      First : w ≡ opened_world start → BeginsRound start w
      Next : (turns : List Turn) → all_over (world_run k turns (opened_world start)).crew ≡ true → w ≡ end_round (world_run k turns (opened_world start)) → BeginsRound start w

    -- P holds of each world in which a round begins, and what any steps of that round make of it
    abbrev pub InEachRound : (WorldState C → WorldState C → Type 0) → Type 0
    InEachRound P = (start : Start) (begun : WorldState C) (order : List ℕ) → BeginsRound start begun → P begun (after_steps order begun)

  -- where the turn of an application is over, it has read all that had arrived without a gap as the round began, or it was told that
  -- the connection was aborted
  abbrev pub ReadersCaughtUp : WorldState C → WorldState C → Type 0
  ReadersCaughtUp begun w =
      (s : Side) → is_going (pick s 0 1) w ≡ false
      → (received (arrived_at s begun) ≤ length (output_of s w)) ⊎ (was_told tells_stop (notes_of s w.crew) ≡ true)

  -- ---- bytes that are asked for

  -- the steps that an actor made since then
  abbrev pub steps_since : ℕ → WorldState C → WorldState C → List Note
  steps_since actor begun w = drop (length (notes_at actor begun.crew)) (notes_at actor w.crew)

  -- the step of another actor frees bytes, past the edge as the round began, after this actor asked for bytes last in it
  abbrev pub frees_since : WorldState C → WorldState C → ℕ → Side → Note → Bool
  frees_since begun w actor s note =
      frees_after s (last_asked s 0 (steps_since actor begun w)) (written_by s begun).edge note

  -- in this round another actor made such a step
  pub record OthersFreed (begun w : WorldState C) (actor : ℕ) (s : Side) : Type 0 where
    pub other : ℕ
    pub apart : other ≡ actor → ⊥
    pub freed : list_any (frees_since begun w actor s) (steps_since other begun w) ≡ true

  -- an end that may ask for bytes, with room in its window for a full segment, was refused the last grant that it asked for by these steps
  abbrev pub IsDoneAsking : PathState C → List Note → Side → Type 0
  IsDoneAsking p steps s =
      may_ask p.profile s (end_at s p) ≡ true → last_refused s false steps ≡ true

  abbrev pub AreDoneAsking : Actor C → List Note → Type 0
  AreDoneAsking (App a) steps = Unit {0}
  AreDoneAsking (Path p) steps = p.agenda ≡ [] → (s : Side) → IsDoneAsking p steps s

  -- each end of a path whose turn is over, by the steps of the round
  pub record GrantsAreDone (begun w : WorldState C) : Type 0 where
    pub each : (actor : ℕ) (c : ActorCrew C) → slice_get w.crew actor ≡ Some c → AreDoneAsking c.member (steps_since actor begun w)

  -- An end that may ask for bytes, with room in its window for a full segment, asked for all, unless another path made more to be asked
  -- for.
  abbrev pub AskForAll : WorldState C → WorldState C → ℕ → Actor C → Type 0
  AskForAll begun w actor (App a) = Unit {0}
  AskForAll begun w actor (Path p) =
      p.agenda ≡ [] → (s : Side) → may_ask p.profile s (end_at s p) ≡ true
      → AskedForAll (path_of p) s (steps_since actor begun w) (length (written_by s begun).written) (written_by s w) ⊎ OthersFreed begun w actor s

  -- each end of a path whose turn is over
  pub record PathsAskForAll (begun w : WorldState C) : Type 0 where
    pub each : (actor : ℕ) (c : ActorCrew C) → slice_get w.crew actor ≡ Some c → AskForAll begun w actor c.member
