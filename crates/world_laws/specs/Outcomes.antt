-- What a connection shows: how it stands, what its readers got, and each direction as a pipe.
use Rattle.std.specs.Prelude.{ℕ, Bool, true, false, ◌&&◌, if◌then◌else◌, Option, Some, None, List, [], ◌∷◌, flat_map, slice_get}
use Rattle.std.specs.List.{list_any}
use Rattle.sides.specs.declared.side.Side.{Side}
use Rattle.sides.specs.declared.side.Side.TheVariants.{A, B}
use Rattle.pipe_model.specs.declared.pipe.Pipe.{Pipe}
use Rattle.send_book.specs.State.{acked_len}
use Rattle.reassembly_book.specs.declared.call.ReassemblyReply.TheVariants as reassembly_replies
use Rattle.path_core.specs.Events.{is_dead_path}
use Rattle.actor_desk.specs.declared.ask.Note.{Note}
use Rattle.actor_desk.specs.declared.ask.Reply.{Reply}
use Rattle.actor_desk.specs.declared.ask.Reply.TheVariants as replies
use Rattle.actor_desk.specs.Desk.{send_of, reassembly_of}
use Rattle.actor_desk.specs.Words.{pick}
use Rattle.stream_apps.specs.AppSteps.{bytes_in}
use Rattle.world_laws.specs.declared.member.Member.TheVariants.{App, Path}
use Rattle.world_laws.specs.declared.outcome.Outcome.{Outcome}
use Rattle.world_laws.specs.declared.outcome.Outcome.TheVariants.{Going, Delivered, Aborted, NoPath}
use Rattle.world_laws.specs.Actors.{Actor, ActorCrew}
use Rattle.actor_desk.specs.Books.{books_in}
use Rattle.world_laws.specs.Worlds.{WorldState}

-- ---- what an application was told

-- the reply tells the end of the stream
abbrev pub tells_end : Reply → Bool
tells_end (replies.Reassembly reassembly_replies.End) = true
tells_end _ = false

-- the reply tells that the stream was aborted, by either side
abbrev pub tells_stop : Reply → Bool
tells_stop (replies.Reassembly (reassembly_replies.Aborted by_peer)) = true
tells_stop _ = false

-- the reply tells that the peer aborted the stream
abbrev pub tells_abort : Reply → Bool
tells_abort (replies.Reassembly (reassembly_replies.Aborted by_peer)) = by_peer
tells_abort _ = false

abbrev pub note_tells : (Reply → Bool) → Note → Bool
note_tells test note = test note.reply

-- one of these steps was answered so
abbrev pub was_told : (Reply → Bool) → List Note → Bool
was_told test notes = list_any (note_tells test) notes

-- the bytes that a step read
abbrev pub bytes_noted : Note → List ℕ
bytes_noted note = bytes_in note.reply

-- the bytes that these steps read, in their order
abbrev pub read_by : List Note → List ℕ
read_by notes = flat_map bytes_noted notes

-- ---- the outcome

-- an abort comes before all, and delivery before the death of all paths
abbrev pub outcome_by : Bool → Bool → Bool → Bool → Outcome
outcome_by aborted_a aborted_b delivered dead =
    if aborted_a then Aborted A else (if aborted_b then Aborted B else (if delivered then Delivered else (if dead then NoPath else Going)))

module _ {C : Type 0} where
  -- ---- steps of actors

  -- the steps of an actor, the applications of A and B being the actors 0 and 1
  abbrev pub notes_or : Option (ActorCrew C) → List Note
  notes_or None = []
  notes_or (Some c) = c.list

  abbrev pub notes_at : ℕ → List (ActorCrew C) → List Note
  notes_at actor crew = notes_or (slice_get crew actor)

  abbrev pub notes_of : Side → List (ActorCrew C) → List Note
  notes_of s crew = notes_at (pick s 0 1) crew

  -- all that the application of a side has read
  abbrev pub output_of : Side → WorldState C → List ℕ
  output_of s w = read_by (notes_of s w.crew)

  -- ---- dead paths

  -- an application is no path
  abbrev pub is_no_live_path : Actor C → Bool
  is_no_live_path (App a) = true
  is_no_live_path (Path p) = is_dead_path p

  abbrev pub are_all_dead : List (ActorCrew C) → Bool
  are_all_dead [] = true
  are_all_dead (c ∷ crew) = is_no_live_path c.member && are_all_dead crew

  -- by what the readers were told, and by whether each path is dead
  abbrev pub outcome_of : List (ActorCrew C) → Outcome
  outcome_of crew =
      outcome_by (was_told tells_abort (notes_of A crew)) (was_told tells_abort (notes_of B crew))
      (was_told tells_end (notes_of A crew) && was_told tells_end (notes_of B crew)) (are_all_dead crew)

  -- ---- pipes

  -- what the writer's side has and how much of it is acknowledged, and how far the reader of the other side is
  abbrev pub pipe_of : Side → Side → WorldState C → Pipe
  pipe_of writer reader w =
      let send = send_of writer (books_in w.books) in record {
        written = send.written;
        closed = send.closed;
        read = (reassembly_of reader (books_in w.books)).read;
        acked = acked_len send.marks;
        told_end = was_told tells_end (notes_of reader w.crew);
      }

  abbrev pub pipe_ab : WorldState C → Pipe
  pipe_ab w = pipe_of A B w

  abbrev pub pipe_ba : WorldState C → Pipe
  pipe_ba w = pipe_of B A w
