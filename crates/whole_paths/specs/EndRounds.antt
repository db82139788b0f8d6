-- Rounds of a mild connection over one path between open ends, in which nothing is to be mended, once all of a stream is read: the stream is closed,
-- and its DATA_FIN is sent (RFC 8684, section 3.3.3).
use Rattle.std.specs.Prelude.{◌≡◌, ◌<◌, ◌≤◌, ◌⊎◌, true, is_some, List, length}
use Rattle.sides.specs.declared.side.Side.{Side}
use Rattle.sides.specs.Side.{peer}
use Rattle.send_book.specs.State.{acked_len}
use Rattle.actor_desk.specs.Words.{pick}
use Rattle.path_core.specs.State.{PathState, end_at}
use Rattle.path_core.specs.Values.{Carried, values}
use Rattle.world_laws.specs.Openings.{PathPlan, Start}
use Rattle.world_laws.specs.Promises.{arrived_at, written_by}
use Rattle.world_laws.specs.RoundDone.{reached}
use Rattle.world_laws.specs.Worlds.{Turn}
use Rattle.whole_paths.specs.Finish.{IsPathAt}
use Rattle.whole_paths.specs.Delivery.{IsAllThere}
use Rattle.whole_paths.specs.Mending.{IsToldSoon}
use Rattle.whole_paths.specs.OnePathScripts.{BeginsWithOnePath}
use Rattle.whole_paths.specs.SegmentRounds.{Rounds, read_after}

module _ (start : Start) (s : Side) where
  -- the stream of the side is closed after these turns
  abbrev pub IsClosed : List Turn → Type 0
  IsClosed turns = (written_by s (reached values start turns)).closed ≡ true

  -- the peer's side knows where it ends
  abbrev pub EndIsKnown : List Turn → Type 0
  EndIsKnown turns = is_some (arrived_at (peer s) (reached values start turns)).known_end ≡ true

  -- the end of path 0 sent the DATA_FIN, and all bytes of the file before it are acknowledged: SND.UNA is past them
  abbrev pub FinIsSent : List Turn → Type 0
  FinIsSent turns = (p : PathState Carried) → IsPathAt 0 (reached values start turns) p
      → ((end_at s p).sending.fin_sent ≡ true) × (length (pick s start.file_a start.file_b) < (end_at s p).tcp.send.una)

-- Where all of a stream is read, and nothing is to be mended, and all of it is acknowledged in the first five rounds, it is closed a round later;
-- and in the next round its end sends the DATA_FIN, or the peer's side knows the end. If what the end sent so, behind bytes that are all
-- acknowledged, comes in four more, the peer's side knows it then.
pub record AnEndComes (start : Start) (s : Side) (b u : List Turn) : Type 0 where
  pub closed : IsClosed start s b
  pub known : EndIsKnown start s u

abbrev pub AnEndIsTold : Type 0
AnEndIsTold = (start : Start) (plan : PathPlan) → BeginsWithOnePath start plan → (s : Side) (v a b u : List Turn)
    → Rounds start 5 v a → Rounds start 2 a b → Rounds start 4 b u
    → (p : PathState Carried) → IsPathAt 0 (reached values start v) p → IsToldSoon s p ⊎ IsAllThere s (reached values start v)
    → let file = length (pick s start.file_a start.file_b) in file ≤ read_after start s v
    → file ≤ acked_len (written_by s (reached values start a)).marks
    → (FinIsSent start s b → EndIsKnown start s u) → AnEndComes start s b u
