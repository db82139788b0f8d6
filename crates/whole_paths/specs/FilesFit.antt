-- A file that fits into the window that its side is told with the first SYN: all of it may be sent, always (RFC 9293, section 3.8.6).
use Rattle.std.specs.Prelude.{◌+◌, ◌≡◌, ◌≤◌, true, List, length}
use Rattle.sides.specs.declared.side.Side.{Side}
use Rattle.actor_desk.specs.Words.{pick}
use Rattle.path_core.specs.Values.{values}
use Rattle.world_laws.specs.Openings.{PathPlan, Start}
use Rattle.world_laws.specs.Promises.{written_by}
use Rattle.world_laws.specs.RoundDone.{reached}
use Rattle.world_laws.specs.Worlds.{Turn, all_over}
use Rattle.whole_paths.specs.OnePathScripts.{BeginsWithOnePath}
use Rattle.whole_paths.specs.OpenCourses.{IsOpenAfter}

-- The side's file fits into the peer's buffer, with three octets more, and into the greatest window of a SYN.
pub record FitsFirstWindow (start : Start) (s : Side) : Type 0 where
  pub buffer : length (pick s start.file_a start.file_b) + 3 ≤ start.buffer
  pub syn : length (pick s start.file_a start.file_b) + 1 ≤ 65535

-- As path 0 is open and a round is over, the side may send all of it.
abbrev pub FittingFilesAreNeverShut : Type 0
FittingFilesAreNeverShut = (start : Start) (plan : PathPlan) (s : Side) → BeginsWithOnePath start plan → FitsFirstWindow start s → (turns : List Turn)
    → IsOpenAfter start turns → all_over (reached values start turns).crew ≡ true
    → length (pick s start.file_a start.file_b) ≤ (written_by s (reached values start turns)).edge
