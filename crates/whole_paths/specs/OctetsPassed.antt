-- What comes up to a position of a side: each octet before it is acknowledged, or lies in a record of data that comes by a tick.
use Rattle.std.specs.Prelude.{ℕ, ◌≡◌, ◌<◌, ◌≤◌, ◌⊎◌, ◌+◌, false, Some, List, [], slice_get}
use Rattle.sides.specs.declared.side.Side.{Side}
use Rattle.sides.specs.Side.{peer}
use Rattle.subflow_send.specs.Records.{Record, end_of}
use Rattle.subflow_send.specs.declared.record.RecordKind.TheVariants.{Data}
use Rattle.path_core.specs.State.{PathState, end_at}
use Rattle.path_core.specs.Values.{Carried}
use Rattle.world_laws.specs.Openings.{Start}
use Rattle.world_laws.specs.Worlds.{Turn}
use Rattle.stream_lanes.specs.Words.{Every, Has}
use Rattle.whole_paths.specs.Mending.{IsOpenTurn, IsRecordOf, IsThereBy, IsWell}
use Rattle.whole_paths.specs.Mild.{IsMildStart}
use Rattle.whole_paths.specs.OpenCourses.{IsOpenAfter}
use Rattle.whole_paths.specs.RecordsPassed.{ComesInTime}
use Rattle.whole_paths.specs.Unmended.{AreWellBut}

-- a position lies in a record of data that comes by a tick, or was acknowledged
pub record IsInOneThatComes (s : Side) (pos by : ℕ) (p : PathState Carried) : Type 0 where
  pub one : Record
  pub data_is : one.kind ≡ Data
  pub begins : one.pos ≤ pos
  pub ends : pos < end_of one
  pub comes : ComesInTime s one by p

abbrev pub ComesUpTo : Side → ℕ → ℕ → PathState Carried → Type 0
ComesUpTo s last by p = (pos : ℕ) → pos < last → (pos < (end_at s p).tcp.send.una) ⊎ IsInOneThatComes s pos by p

-- All comes up to a record before which each is one of data that comes by the tick; so it is by each turn of a mild connection between open ends; and
-- where the turn is over in which that tick lies the peer's RCV.NXT has reached the position.
pub record OctetsArePassed : Type 0 where
  pub begins : (start : Start) (turns : List Turn) (h : IsOpenAfter start turns) (s : Side) (by at : ℕ) (r : Record)
      → slice_get (end_at s h.path).tcp.send.records at ≡ Some r
      → ((i : ℕ) (t : Record) → i < at → slice_get (end_at s h.path).tcp.send.records i ≡ Some t → (t.kind ≡ Data) × IsThereBy s t by h.path)
      → ComesUpTo s r.pos by h.path
  pub on : (start : Start) (turns : List Turn) (turn : Turn) (h : IsOpenTurn start turns turn) (s : Side) (last by : ℕ)
      → ComesUpTo s last by h.before.path → ComesUpTo s last by h.after.path
  pub due : (start : Start) (turns : List Turn) → IsMildStart start → (h : IsOpenAfter start turns) → h.path.agenda ≡ []
      → (s : Side) (last by : ℕ) → by < h.path.until → ComesUpTo s last by h.path → last ≤ (end_at (peer s) h.path).tcp.recv.edge

-- On path 0 of a mild connection, whose ends are open: all before a record of data comes up to it within 400 ticks, where the record was sent, and
-- each before it is well.
abbrev pub WellOctetsCome : Type 0
WellOctetsCome = (start : Start) (turns : List Turn) → IsMildStart start → (h : IsOpenAfter start turns) → (s : Side) (at : ℕ) (r : Record)
    → slice_get (end_at s h.path).tcp.send.records at ≡ Some r → r.kind ≡ Data → r.sending.unsent ≡ false
    → ((i : ℕ) (t : Record) → i < at → slice_get (end_at s h.path).tcp.send.records i ≡ Some t → IsWell s h.path t)
    → ComesUpTo s r.pos (h.path.clock + 400) h.path

-- each record of a side is well, or all comes within 400 ticks up to one that may be lost, the first of those
pub data ComesUpToLost (s : Side) (lost : List ℕ) (p : PathState Carried) : Type 0 where
  none : Every (IsWell s p) (end_at s p).tcp.send.records → ComesUpToLost s lost p
  up_to : (r : Record) → IsRecordOf (end_at s p) r → r.kind ≡ Data → r.sending.unsent ≡ false → Has (λ n. n ≡ r.pos) lost
      → ComesUpTo s r.pos (p.clock + 400) p → ComesUpToLost s lost p

-- on path 0 of a mild connection, whose ends are open
abbrev pub AllComesUpToLost : Type 0
AllComesUpToLost = (start : Start) (turns : List Turn) → IsMildStart start → (h : IsOpenAfter start turns) → (s : Side) (lost : List ℕ)
    → AreWellBut s lost h.path → ComesUpToLost s lost h.path
