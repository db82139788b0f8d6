-- A window that is shut as a round is over: the peer has read all before its edge, and takes more (RFC 9293, section 3.8.6.1).
use Rattle.std.specs.Prelude.{ℕ, ◌+◌, ◌≡◌, ◌<◌, ◌≤◌, ◌⊎◌, true, List, [], ◌∷◌, ◌++◌, length}
use Rattle.sides.specs.declared.side.Side.{Side}
use Rattle.sides.specs.Side.{peer}
use Rattle.send_book.specs.State.{acked_len}
use Rattle.reassembly_book.specs.Steps as arriving
use Rattle.subflow_tcp.specs.States.{may_finish}
use Rattle.path_core.specs.State.{PathState, end_at}
use Rattle.path_core.specs.Values.{Carried, values}
use Rattle.world_laws.specs.Openings.{PathPlan, Start}
use Rattle.world_laws.specs.Promises.{arrived_at, written_by}
use Rattle.world_laws.specs.RoundDone.{reached}
use Rattle.world_laws.specs.RoundNumbers.{BeginsRound}
use Rattle.world_laws.specs.Worlds.{Turn, all_over}
use Rattle.whole_paths.specs.Courses.{counted}
use Rattle.whole_paths.specs.Finish.{IsPathAt}
use Rattle.whole_paths.specs.GoingOn.{steps_of}
use Rattle.whole_paths.specs.Mild.{IsMildStart}
use Rattle.whole_paths.specs.Straying.{IsOpen}

-- After these turns an end of path 0 that may still send its FIN has no record, and waits for no Data ACK; and its window is shut.
pub record IsShutOut (start : Start) (turns : List Turn) : Type 0 where
  pub path : PathState Carried
  pub here : IsPathAt 0 (reached values start turns) path
  pub is_open : IsOpen path
  pub side : Side
  pub may : may_finish (end_at side path).tcp.state ≡ true
  pub none : (end_at side path).tcp.send.records ≡ []
  pub granted : (end_at side path).sending.granted ≡ []
  pub shut : (end_at side path).sending.shut ≡ true

-- bytes of its side aren't acknowledged, and the peer's book takes 32 bytes past the edge of the window
pub record HasRoomForMore {start : Start} {turns : List Turn} (h : IsShutOut start turns) : Type 0 where
  pub left : acked_len (written_by h.side (reached values start turns)).marks < length (written_by h.side (reached values start turns)).written
  pub takes : (written_by h.side (reached values start turns)).edge + 32 ≤ arriving.edge (arrived_at (peer h.side) (reached values start turns))

-- So it is as a round is over, or something was counted in the round, in a mild connection over one path with buffers of 32 bytes at least.
abbrev pub ShutWindowsHaveRoom : Type 0
ShutWindowsHaveRoom = (start : Start) (plan : PathPlan) (since : List Turn) (order : List ℕ) → start.paths ≡ plan ∷ [] → IsMildStart start
    → 32 ≤ start.buffer → BeginsRound values start (reached values start since)
    → let turns = since ++ steps_of order in all_over (reached values start turns).crew ≡ true → (h : IsShutOut start turns)
    → (counted values start since < counted values start turns) ⊎ HasRoomForMore h
