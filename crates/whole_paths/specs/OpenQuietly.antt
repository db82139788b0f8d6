-- Where no segment of A's with octets comes to B's end before that may send a DSS, as none does unless A's third segment, which shows both keys, is
-- harmed or overtaken (RFC 8684, section 3.1).
use Rattle.std.specs.Prelude.{ℕ, ◌+◌, ◌≡◌, ◌≤◌, List, ◌∷◌, ◌++◌, length}
use Rattle.sides.specs.declared.side.Side.TheVariants.{A, B}
use Rattle.path_core.specs.State.{PathState}
use Rattle.path_core.specs.Values.{Carried, values}
use Rattle.world_laws.specs.Openings.{PathPlan, Start}
use Rattle.world_laws.specs.RoundDone.{reached}
use Rattle.world_laws.specs.Worlds.{Turn}
use Rattle.whole_paths.specs.Brought.{Comes}
use Rattle.whole_paths.specs.Courses.{harmed_so_far}
use Rattle.whole_paths.specs.Finish.{IsPathAt}
use Rattle.whole_paths.specs.News.{one_if}
use Rattle.whole_paths.specs.OnePathScripts.{BeginsWithOnePath}
use Rattle.whole_paths.specs.OpenFirst.{HasJustOpened}
use Rattle.whole_paths.specs.Unmended.{AreWellBut}

-- before the last of these turns no segment comes next to B's end of path 0 that has octets, or a FIN
abbrev pub NothingComesEarly : Start → List Turn → Type 0
NothingComesEarly start turns = (before more : List Turn) (turn : Turn) → turns ≡ before ++ turn ∷ more → (p : PathState Carried)
    → IsPathAt 0 (reached values start before) p → (x : Comes values p) → x.due.to ≡ B → length x.segment.payload + one_if x.segment.fin ≡ 0

-- then no more of A's records may be lost as path 0 opens than segments were harmed
pub record LosesHarmedAlone (start : Start) (turns : List Turn) (p : PathState Carried) : Type 0 where
  pub lost : List ℕ
  pub well : AreWellBut A lost p
  pub few : length lost ≤ harmed_so_far values start turns

abbrev pub OpensQuietly : Type 0
OpensQuietly = (start : Start) (plan : PathPlan) (turns : List Turn) → BeginsWithOnePath start plan → (h : HasJustOpened start turns)
    → NothingComesEarly start turns → LosesHarmedAlone start turns h.now.path
