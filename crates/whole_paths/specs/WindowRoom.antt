-- The window that an end last offered has room for all that its peer sent.
use Rattle.std.specs.Prelude.{ℕ, ◌≡◌, ◌<◌, ◌≤◌, false, List, [], ◌∷◌, length}
use Rattle.sides.specs.declared.side.Side.{Side}
use Rattle.sides.specs.declared.side.Side.TheVariants.{B}
use Rattle.sides.specs.Side.{peer}
use Rattle.subflow_tcp.specs.States.{is_dead}
use Rattle.actor_desk.specs.Words.{pick}
use Rattle.path_core.specs.State.{PathState, end_at}
use Rattle.path_core.specs.Values.{Carried, values}
use Rattle.world_laws.specs.Openings.{PathPlan, Start}
use Rattle.world_laws.specs.RoundDone.{reached}
use Rattle.world_laws.specs.Worlds.{Turn}
use Rattle.whole_paths.specs.Finish.{IsPathAt}
use Rattle.whole_paths.specs.Mending.{LeavesRoomFor}
use Rattle.whole_paths.specs.Mild.{IsMildStart}
use Rattle.whole_paths.specs.OnePathScripts.{BeginsWithOnePath}
use Rattle.whole_paths.specs.OpeningWaits.{IsAlive}
use Rattle.whole_paths.specs.Straying.{IsOpenFrom}

-- Between living ends of the only path of a mild connection SND.NXT of either lies 2^20 positions past RCV.NXT of its peer at most: a bare
-- acknowledgement, which goes at SND.NXT, stands in the window or just past it (RFC 9293, section 3.10.7.4).
abbrev pub LivingWindowsHaveRoom : Type 0
LivingWindowsHaveRoom = (start : Start) (plan : PathPlan) (turns : List Turn) → start.paths ≡ plan ∷ [] → IsMildStart start → (p : PathState Carried)
    → IsPathAt 0 (reached values start turns) p → ((s : Side) → is_dead (end_at s p).tcp.state ≡ false) → (s : Side) → LeavesRoomFor s p

-- so where both are past the handshake, and B's may send a DSS
abbrev pub EachWindowHasRoom : Type 0
EachWindowHasRoom = (start : Start) (plan : PathPlan) (turns : List Turn) → BeginsWithOnePath start plan
    → (p : PathState Carried) → IsPathAt 0 (reached values start turns) p → IsOpenFrom B p → (s : Side) → LeavesRoomFor s p

-- As long as no end is dead A's, if it sent nothing behind its SYN, knows of no window that is shut.
abbrev pub NoWindowIsShutBefore : Type 0
NoWindowIsShutBefore = (start : Start) (plan : PathPlan) (turns : List Turn) → BeginsWithOnePath start plan → (p : PathState Carried) → IsPathAt 0 (reached values start turns) p
    → IsAlive p → p.a.tcp.send.nxt ≤ 1 → p.a.sending.shut ≡ false

-- On each path, between living ends, so it is of an end's peer that sent no FIN.
abbrev pub UnfinishedWindowsHaveRoom : Type 0
UnfinishedWindowsHaveRoom = (start : Start) (turns : List Turn) → IsMildStart start → (number : ℕ) (p : PathState Carried) → IsPathAt number (reached values start turns) p
    → ((s : Side) → is_dead (end_at s p).tcp.state ≡ false) → (s : Side) → (end_at (peer s) p).tcp.send.finished ≡ false → LeavesRoomFor s p

-- The connection is mild, and so it is between living ends of path 0, whichever sent its FIN.
pub record IsRoomy (start : Start) : Type 0 where
  pub mild : IsMildStart start
  pub room : (turns : List Turn) (p : PathState Carried) → IsPathAt 0 (reached values start turns) p → ((s : Side) → is_dead (end_at s p).tcp.state ≡ false)
      → (s : Side) → LeavesRoomFor s p

-- Over one path each mild connection is; over any number of paths where both files are short: no more was ever sent than a window has room for.
abbrev pub OnePathIsRoomy : Type 0
OnePathIsRoomy = (start : Start) (plan : PathPlan) → BeginsWithOnePath start plan → IsRoomy start

abbrev pub ShortFilesAreRoomy : Type 0
ShortFilesAreRoomy = (start : Start) → IsMildStart start → ((s : Side) → length (pick s start.file_a start.file_b) < 1048576) → IsRoomy start
