-- Rounds of a mild connection over one path between open ends, in which nothing is to be mended: in twenty of them the peer's reader reads a full
-- segment more. What was told is heard, bytes are written, what is under way comes and is acknowledged, they are sent, come, are passed, and read.
use Rattle.std.specs.Prelude.{ℕ, suc, zero, ◌+◌, ◌-◌, ◌≡◌, ◌≤◌, ◌⊎◌, min, true, List, [], ◌∷◌, ◌++◌, length}
use Rattle.sides.specs.declared.side.Side.{Side}
use Rattle.sides.specs.Side.{peer}
use Rattle.send_book.specs.State.{acked_len}
use Rattle.reassembly_book.specs.State.{received}
use Rattle.stream_lanes.specs.Words.{Every}
use Rattle.actor_desk.specs.Words.{pick}
use Rattle.path_core.specs.State.{PathState, end_at}
use Rattle.path_core.specs.Values.{Carried, values}
use Rattle.world_laws.specs.Openings.{PathPlan, Start}
use Rattle.world_laws.specs.Promises.{arrived_at, written_by}
use Rattle.world_laws.specs.RoundDone.{reached}
use Rattle.world_laws.specs.Worlds.{Turn, all_over}
use Rattle.whole_paths.specs.Delivery.{IsAllThere}
use Rattle.whole_paths.specs.Directions.{DirectionIsWell}
use Rattle.whole_paths.specs.Finish.{IsPathAt}
use Rattle.whole_paths.specs.GoingOn.{steps_of}
use Rattle.whole_paths.specs.Mending.{IsToldSoon, IsWell}
use Rattle.whole_paths.specs.Mild.{IsMildStart}
use Rattle.whole_paths.specs.OnePathScripts.{BeginsWithOnePath}
use Rattle.whole_paths.specs.OpenCourses.{IsOpenAfter}
use Rattle.whole_paths.specs.SentInOrder.{sent_up_to}

module _ (start : Start) where
  -- path 0 is open after these turns, and after each of the others
  abbrev pub StaysOpen : List Turn → List Turn → Type 0
  StaysOpen turns [] = IsOpenAfter start turns
  StaysOpen turns (turn ∷ more) = IsOpenAfter start turns × StaysOpen (turns ++ turn ∷ []) more

  -- one round: each turn is over before it and after it, and path 0 is open at each moment
  pub record IsRound (v u : List Turn) : Type 0 where
    pub order : List ℕ
    pub is : u ≡ v ++ Turn.Round ∷ steps_of order
    pub before : all_over (reached values start v).crew ≡ true
    pub over : all_over (reached values start u).crew ≡ true
    pub stays_open : StaysOpen v (Turn.Round ∷ steps_of order)

  -- so many rounds, one after the other
  abbrev pub Rounds : ℕ → List Turn → List Turn → Type 0
  Rounds zero v u = v ≡ u
  Rounds (suc n) v u = (w : List Turn) × (Rounds n v w × IsRound w u)

  -- ---- of a side's stream

  -- how much the peer's reader has read, and how much is written and acknowledged
  abbrev pub read_after : Side → List Turn → ℕ
  read_after s turns = (arrived_at (peer s) (reached values start turns)).read

  abbrev pub written_after : Side → List Turn → ℕ
  written_after s turns = length (written_by s (reached values start turns)).written

  -- nothing of the stream is to be mended
  abbrev pub IsWellAfter : Side → List Turn → Type 0
  IsWellAfter s turns = DirectionIsWell s (reached values start turns)

  -- What the peer could tell of the stream after the first turns is heard after the others: all that its side had received is acknowledged, and
  -- its window takes a full segment's payload past what its reader had read, or all of the file.
  pub record IsHeard (plan : PathPlan) (s : Side) (v u : List Turn) : Type 0 where
    pub acked : received (arrived_at (peer s) (reached values start v)) ≤ acked_len (written_by s (reached values start u)).marks
    pub window : min (length (pick s start.file_a start.file_b)) (read_after s v + (plan.mss - 28)) ≤ (written_by s (reached values start u)).edge

-- ---- what each round brings, and each four

-- In a round the application writes its file, or as much as a side buffers past what was acknowledged as it began.
abbrev pub EachRoundWrites : Type 0
EachRoundWrites = (start : Start) (v u : List Turn) → IsMildStart start → IsRound start v u → (s : Side)
    → min (length (pick s start.file_a start.file_b)) (acked_len (written_by s (reached values start v)).marks + start.buffer)
    ≤ written_after start s u

-- And the peer's reader reads all that had come in order as it began.
abbrev pub EachRoundReads : Type 0
EachRoundReads = (start : Start) (v u : List Turn) → IsMildStart start → IsRound start v u → (s : Side)
    → received (arrived_at (peer s) (reached values start v)) ≤ read_after start s u

-- In four rounds all comes that is sent, where each record of the side is well; or all of the stream is there.
abbrev pub FourRoundsBring : Type 0
FourRoundsBring = (start : Start) (v u : List Turn) → IsMildStart start → Rounds start 4 v u → (s : Side)
    → (p q : PathState Carried) → IsPathAt 0 (reached values start v) p → IsPathAt 0 (reached values start u) q
    → Every (IsWell s p) (end_at s p).tcp.send.records
    → IsAllThere s (reached values start u) ⊎ (sent_up_to (end_at s p).tcp.send ≤ (end_at (peer s) q).tcp.recv.edge)

-- And the end hears how far the peer was, where it was to be told soon.
abbrev pub FourRoundsTell : Type 0
FourRoundsTell = (start : Start) (v u : List Turn) → IsMildStart start → Rounds start 4 v u → (s : Side)
    → (p q : PathState Carried) → IsPathAt 0 (reached values start v) p → IsPathAt 0 (reached values start u) q → IsToldSoon s p
    → IsAllThere s (reached values start u) ⊎ ((end_at (peer s) p).tcp.recv.edge ≤ (end_at s q).tcp.send.una)

-- ---- a segment

-- Of a stream the peer's reader reads a full segment's payload more within twenty rounds, or all of it, where what was told is heard in the first
-- six, and nothing is to be mended as they begin, and once seven, eleven and fifteen of them are over. No more is asked of the congestion window
-- than that it holds one segment: what was under way after seven rounds is acknowledged after eight more, and then the window is free.
abbrev pub ASegmentIsRead : Type 0
ASegmentIsRead = (start : Start) (plan : PathPlan) → BeginsWithOnePath start plan → (s : Side) (v a b c d u : List Turn)
    → Rounds start 6 v a → Rounds start 1 a b → Rounds start 4 b c → Rounds start 4 c d → Rounds start 5 d u
    → IsWellAfter start s v → IsWellAfter start s b → IsWellAfter start s c → IsWellAfter start s d → IsHeard start plan s v a
    → min (length (pick s start.file_a start.file_b)) (read_after start s v + (plan.mss - 28)) ≤ read_after start s u
