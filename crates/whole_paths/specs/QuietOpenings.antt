-- How many of A's records may be lost as path 0 opens, though no segment was harmed: as many as copies with octets came to B's end before that may
-- send a DSS (RFC 8684, section 3.1); and no more than A's end has, nor than its file has full segments, where that fits the first window.
use Rattle.std.specs.Prelude.{ℕ, ◌+◌, ◌≤◌, nat_le, min, Bool, ◌&&◌, if◌then◌else◌, List, [], ◌∷◌, length}
use Rattle.sides.specs.declared.side.Side.{Side}
use Rattle.path_core.specs.Values.{values}
use Rattle.world_laws.specs.Openings.{PathPlan, Start}
use Rattle.world_laws.specs.Worlds.{Turn}
use Rattle.whole_paths.specs.Courses.{harmed_so_far}
use Rattle.whole_paths.specs.Directions.{OwesAlong}
use Rattle.whole_paths.specs.EarlyCopies.{came_early}
use Rattle.whole_paths.specs.EarlyRecords.{early}
use Rattle.whole_paths.specs.Finish.{segments}
use Rattle.whole_paths.specs.OnePathScripts.{BeginsWithOnePath, Count}
use Rattle.whole_paths.specs.OpenFirst.{HasJustOpened}

-- A's file fits into B's buffer, with three octets more, and into the greatest window of a SYN
abbrev pub fits_first : Start → Bool
fits_first start = nat_le (length start.file_a + 3) start.buffer && nat_le (length start.file_a + 1) 65535

-- as many full segments, on the first of these paths
abbrev pub segments_on : List PathPlan → List ℕ → ℕ
segments_on [] file = 0
segments_on (plan ∷ plans) file = segments plan.mss (length file)

-- as many as may be lost so
abbrev pub lost_early : Count
lost_early start turns = let most = min (came_early start turns) (early values start turns) in
    if fits_first start then min most (segments_on start.paths start.file_a) else most

-- As path 0 opens no more is owed along either direction than that, and what was harmed.
abbrev pub OpensOwingFew : Type 0
OpensOwingFew = (start : Start) (plan : PathPlan) (turns : List Turn) (s : Side) → BeginsWithOnePath start plan → HasJustOpened start turns
    → (debts : ℕ) × OwesAlong start s debts turns × (debts ≤ lost_early start turns + harmed_so_far values start turns)
