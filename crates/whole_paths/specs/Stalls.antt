-- What holds up a stream of a mild connection over one path where its end is told how far its peer is: a window that is shut, and nothing else (RFC
-- 9293, section 3.8.6).
use Rattle.std.specs.Prelude.{◌≡◌, ◌<◌, ◌≤◌, true, List, [], length}
use Rattle.sides.specs.declared.side.Side.{Side}
use Rattle.sides.specs.Side.{peer}
use Rattle.actor_desk.specs.Words.{pick}
use Rattle.path_core.specs.State.{PathState, end_at}
use Rattle.path_core.specs.Values.{Carried, values}
use Rattle.world_laws.specs.Openings.{PathPlan, Start}
use Rattle.world_laws.specs.Promises.{written_by}
use Rattle.world_laws.specs.RoundDone.{reached}
use Rattle.world_laws.specs.Worlds.{Turn}
use Rattle.whole_paths.specs.Delivery.{IsAllThere}
use Rattle.whole_paths.specs.Finish.{IsPathAt}
use Rattle.whole_paths.specs.Mending.{IsToldSoon}
use Rattle.whole_paths.specs.OnePathScripts.{BeginsWithOnePath}
use Rattle.whole_paths.specs.SegmentRounds.{IsRound, Rounds}
use Rattle.whole_paths.specs.SentInOrder.{sent_up_to}

-- From the path to what it is after these turns: more of the side's stream came; or something that was sent hasn't come; or all of the file lies
-- before the edge of the window, or all of the stream is with the peer; or nothing is left to be acknowledged, and the end knows that the window is shut.
pub data GoesOnOrStalls (start : Start) (s : Side) (p q : PathState Carried) (turns : List Turn) : Type 0 where
  comes : (end_at (peer s) p).tcp.recv.edge < (end_at (peer s) q).tcp.recv.edge → GoesOnOrStalls start s p q turns
  flies : (end_at (peer s) q).tcp.recv.edge < sent_up_to (end_at s q).tcp.send → GoesOnOrStalls start s p q turns
  fits : length (pick s start.file_a start.file_b) ≤ (written_by s (reached values start turns)).edge → GoesOnOrStalls start s p q turns
  there : IsAllThere s (reached values start turns) → GoesOnOrStalls start s p q turns
  shut : (end_at s q).tcp.send.records ≡ [] → (end_at s q).sending.shut ≡ true → GoesOnOrStalls start s p q turns

-- So it is after six rounds as which begin the end is told soon how far its peer is.
abbrev pub WhoStallsIsShut : Type 0
WhoStallsIsShut = (start : Start) (plan : PathPlan) → BeginsWithOnePath start plan → (s : Side) (v a b u : List Turn) → Rounds start 4 v a → IsRound start a b
    → IsRound start b u → (p q : PathState Carried) → IsPathAt 0 (reached values start v) p → IsPathAt 0 (reached values start u) q → IsToldSoon s p
    → GoesOnOrStalls start s p q u
