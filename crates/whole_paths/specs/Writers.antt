-- An application goes on writing its file.
use Rattle.std.specs.Prelude.{ℕ, ◌+◌, ◌≡◌, ◌≤◌, true, false, List, length}
use Rattle.sides.specs.declared.side.Side.{Side}
use Rattle.send_book.specs.State.{Sending, acked_len}
use Rattle.actor_desk.specs.Words.{pick}
use Rattle.path_core.specs.Codec.{Codec}
use Rattle.world_laws.specs.Openings.{Start}
use Rattle.world_laws.specs.Promises.{NumbersFit, written_by}
use Rattle.world_laws.specs.RoundNumbers.{BeginsRound, after_steps}
use Rattle.world_laws.specs.Worlds.{WorldState, is_going}

-- The file is written, and its stream closed; or what is written is more than so many bytes by all that a side buffers; or the connection
-- was stopped there.
pub data GoesOnWriting (file : List ℕ) (buffer acked : ℕ) (b : Sending) : Type 0 where
  whole : b.written ≡ file → b.closed ≡ true → GoesOnWriting file buffer acked b
  more : acked + buffer ≤ length b.written → GoesOnWriting file buffer acked b
  stopped : b.aborted ≡ true → GoesOnWriting file buffer acked b

module _ {C : Type 0} where
  -- in each round, as the turn of an application is over: more than was acknowledged as the round began
  abbrev pub WritersGoOn : Codec C → Type 0
  WritersGoOn k = (start : Start) (begun : WorldState C) (order : List ℕ) → NumbersFit start → BeginsRound k start begun → let w = after_steps k order begun in
      (s : Side) → is_going (pick s 0 1) w ≡ false → GoesOnWriting (pick s start.file_a start.file_b) start.buffer (acked_len (written_by s begun).marks) (written_by s w)
