-- How many records A's end of path 0 has as the path opens: no more than its file has full segments, where that fits the first window.
use Rattle.std.specs.Prelude.{ℕ, ◌+◌, ◌≡◌, ◌<◌, ◌≤◌, ◌⊎◌, false, List, length}
use Rattle.sides.specs.declared.side.Side.{Side}
use Rattle.sides.specs.declared.side.Side.TheVariants.{A}
use Rattle.actor_desk.specs.Words.{pick}
use Rattle.subflow_send.specs.Records.{Record, end_of}
use Rattle.path_core.specs.Emission.{payload_size}
use Rattle.path_core.specs.Profile.{Profile}
use Rattle.path_core.specs.State.{PathState, end_at}
use Rattle.path_core.specs.Values.{Carried, values}
use Rattle.world_laws.specs.Openings.{PathPlan, Start}
use Rattle.world_laws.specs.RoundDone.{reached}
use Rattle.world_laws.specs.Worlds.{Turn}
use Rattle.whole_paths.specs.Directions.{OwesAlong}
use Rattle.whole_paths.specs.FilesFit.{FitsFirstWindow}
use Rattle.whole_paths.specs.Finish.{IsPathAt, segments}
use Rattle.whole_paths.specs.Mending.{IsRecordOf}
use Rattle.whole_paths.specs.OnePathScripts.{BeginsWithOnePath}
use Rattle.whole_paths.specs.OpenFirst.{HasJustOpened}
use Rattle.whole_paths.specs.OpeningWaits.{IsAlive}

-- The record is the SYN, at position 0; or it holds a full segment's payload; or it reaches past all of a file of this size.
abbrev pub IsFull : Profile → ℕ → Record → Type 0
IsFull c size r = (r.pos ≡ 0) ⊎ ((r.pos + payload_size c ≤ end_of r) ⊎ (size < end_of r))

-- Each record of an end that sent no FIN is full, as long as both ends live, of a side whose file fits.
abbrev pub RecordsAreFull : Type 0
RecordsAreFull = (start : Start) (plan : PathPlan) (turns : List Turn) (s : Side) → BeginsWithOnePath start plan → FitsFirstWindow start s
    → (p : PathState Carried) → IsPathAt 0 (reached values start turns) p → IsAlive p → (end_at s p).tcp.send.finished ≡ false
    → (r : Record) → IsRecordOf (end_at s p) r → IsFull p.profile (length (pick s start.file_a start.file_b)) r

-- As path 0 opens no more is owed along A's direction.
abbrev pub OpensOwingSegments : Type 0
OpensOwingSegments = (start : Start) (plan : PathPlan) (turns : List Turn) → BeginsWithOnePath start plan → FitsFirstWindow start A
    → HasJustOpened start turns → (debts : ℕ) × OwesAlong start A debts turns × (debts ≤ segments plan.mss (length start.file_a))
