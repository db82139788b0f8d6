-- How far the bytes of a side's stream are, as one number: each counts as it is acknowledged, and for each path as the path tries it and as it lets it go.
use Rattle.std.specs.Prelude.{ℕ, zero, suc, ◌+◌, ◌*◌, ◌≡◌, ◌<◌, ◌≤◌, Bool, true, false, Option, Some, None, List, length, slice_get}
use Rattle.sides.specs.declared.side.Side.{Side}
use Rattle.send_book.specs.declared.mark.ByteMark.{ByteMark}
use Rattle.send_book.specs.Marks.{is_free_for}
use Rattle.send_book.specs.State.{acked_len}
use Rattle.stream_lanes.specs.Marks.{spent_count}
use Rattle.actor_desk.specs.Words.{pick}
use Rattle.path_core.specs.Codec.{Codec}
use Rattle.path_core.specs.Values.{values}
use Rattle.world_laws.specs.Openings.{Start}
use Rattle.world_laws.specs.Promises.{HasRoom, written_by}
use Rattle.world_laws.specs.RoundDone.{reached}
use Rattle.world_laws.specs.Worlds.{Turn, WorldState, world_run}
use Rattle.whole_paths.specs.GivenBack.{given_back}

-- of the first so many paths
abbrev pub byte_news : ℕ → List ByteMark → ℕ
byte_news zero marks = acked_len marks
byte_news (suc path) marks = spent_count path marks + given_back path marks + byte_news path marks

-- of all paths
abbrev pub book_news : {C : Type 0} → Start → Side → WorldState C → ℕ
book_news start s w = byte_news (length start.paths) (written_by s w).marks

-- the path may take the byte
abbrev pub is_free : ℕ → Option ByteMark → Bool
is_free path None = false
is_free path (Some mark) = is_free_for path mark

module _ {C : Type 0} (k : Codec C) where
  -- by no turns it falls
  abbrev pub BookNewsNeverFalls : Type 0
  BookNewsNeverFalls = (start : Start) (before more : List Turn) → let w = reached k start before in (s : Side) → book_news start s w ≤ book_news start s (world_run k more w)

  -- it rises where a byte was free for a path of the connection, and isn't any longer
  abbrev pub EachByteCounts : Type 0
  EachByteCounts = (start : Start) (before more : List Turn) → let w = reached k start before in let v = world_run k more w in (s : Side) (path place : ℕ) → path < length start.paths
      → is_free path (slice_get (written_by s w).marks place) ≡ true → is_free path (slice_get (written_by s v).marks place) ≡ false → book_news start s w < book_news start s v

  -- or where a path of the connection gave back more
  abbrev pub WhatIsGivenBackCounts : Type 0
  WhatIsGivenBackCounts = (start : Start) (before more : List Turn) → let w = reached k start before in let v = world_run k more w in (s : Side) (path : ℕ) → path < length start.paths
      → given_back path (written_by s w).marks < given_back path (written_by s v).marks → book_news start s w < book_news start s v

-- it is no more than the side's file has bytes, once, and twice for each path
abbrev pub BookNewsIsBounded : Type 0
BookNewsIsBounded = (start : Start) (turns : List Turn) → HasRoom start → (s : Side)
    → let file = length (pick s start.file_a start.file_b) in book_news start s (reached values start turns) ≤ file + 2 * (length start.paths * file)
