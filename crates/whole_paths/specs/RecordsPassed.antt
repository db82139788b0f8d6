-- A record that comes by a tick is there as the round is over in which that lies, and passed if no octet before it is missing.
use Rattle.std.specs.Prelude.{ℕ, ◌≡◌, ◌<◌, ◌≤◌, ◌⊎◌, List, []}
use Rattle.sides.specs.declared.side.Side.{Side}
use Rattle.sides.specs.Side.{peer}
use Rattle.subflow_send.specs.Records.{Record, end_of}
use Rattle.subflow_send.specs.declared.record.RecordKind.TheVariants.{Data}
use Rattle.path_core.specs.State.{PathState, end_at}
use Rattle.path_core.specs.Values.{Carried}
use Rattle.world_laws.specs.Openings.{Start}
use Rattle.world_laws.specs.Worlds.{Turn}
use Rattle.whole_paths.specs.Flights.{IsFirst}
use Rattle.whole_paths.specs.Kept.{IsSameRecord}
use Rattle.whole_paths.specs.Mending.{IsAllThereOf, IsOpenTurn, IsRecordOf, IsThereBy}
use Rattle.whole_paths.specs.Mild.{IsMildStart}
use Rattle.whole_paths.specs.OpenCourses.{IsOpenAfter}
use Rattle.whole_paths.specs.WholeMappings.{HasRecord}

-- On path 0 of a mild connection, whose ends are open and whose turn is over: a record of a side, which came to the peer or was to come by a tick of
-- this round, and begins at the peer's RCV.NXT or before it, lies below it.
abbrev pub WholeRecordsArePassed : Type 0
WholeRecordsArePassed = (start : Start) (turns : List Turn) → IsMildStart start → (h : IsOpenAfter start turns) → h.path.agenda ≡ []
    → (s : Side) (r : Record) → HasRecord r (end_at s h.path) → r.kind ≡ Data → r.pos ≤ (end_at (peer s) h.path).tcp.recv.edge
    → (by : ℕ) → by < h.path.until → IsThereBy s r by h.path → end_of r ≤ (end_at (peer s) h.path).tcp.recv.edge

-- On path 0 of a mild connection, whose ends are open and whose turn is over: the first record of a side, which came to the peer or was to come by a
-- tick of this round, lies below the peer's RCV.NXT.
abbrev pub FirstRecordsArePassed : Type 0
FirstRecordsArePassed = (start : Start) (turns : List Turn) → IsMildStart start → (h : IsOpenAfter start turns) → h.path.agenda ≡ []
    → (s : Side) (r : Record)
    → IsFirst r (end_at s h.path) → r.kind ≡ Data → (by : ℕ) → by < h.path.until → IsThereBy s r by h.path
    → end_of r ≤ (end_at (peer s) h.path).tcp.recv.edge

-- a side's record is acknowledged, or it is one of the side's records still, and there by this tick
pub data ComesInTime (s : Side) (r : Record) (by : ℕ) (p : PathState Carried) : Type 0 where
  acknowledged : end_of r ≤ (end_at s p).tcp.send.una → ComesInTime s r by p
  comes : (t : Record) → IsRecordOf (end_at s p) t → IsSameRecord r t → IsThereBy s t by p → ComesInTime s r by p

-- So it is by each turn of a mild connection between open ends; and where a turn is over a record that isn't acknowledged, and was to come by a
-- tick of the round, came.
pub record RecordsComeInTime : Type 0 where
  pub on : (start : Start) (turns : List Turn) (turn : Turn) (h : IsOpenTurn start turns turn) (s : Side) (r : Record) (by : ℕ) → r.kind ≡ Data
      → ComesInTime s r by h.before.path → ComesInTime s r by h.after.path
  pub due : (start : Start) (turns : List Turn) (h : IsOpenAfter start turns) → h.path.agenda ≡ [] → (s : Side) (r : Record) (by : ℕ)
      → by < h.path.until → ComesInTime s r by h.path → (end_of r ≤ (end_at s h.path).tcp.send.una) ⊎ IsAllThereOf s r h.path
