-- An end passes each record of its peer's whole: with checksums, since a mapping is passed whole (RFC 8684, section 3.3.1), and without, since each
-- segment has all of a record.
use Rattle.std.specs.Prelude.{◌≡◌, ◌≤◌, ◌⊎◌, true, false, Some, List, slice_get}
use Rattle.sides.specs.declared.side.Side.{Side}
use Rattle.sides.specs.Side.{peer}
use Rattle.subflow_send.specs.Records.{Record, end_of}
use Rattle.subflow_send.specs.declared.record.RecordKind.TheVariants.{Data}
use Rattle.subflow_tcp.specs.States.{is_dead}
use Rattle.path_core.specs.State.{PathState, end_at}
use Rattle.path_core.specs.Values.{Carried, values}
use Rattle.world_laws.specs.Actors.{ActorCrew}
use Rattle.world_laws.specs.Members.{HoldsOfKind}
use Rattle.world_laws.specs.Openings.{Start}
use Rattle.world_laws.specs.RoundDone.{reached}
use Rattle.world_laws.specs.Worlds.{Turn}
use Rattle.whole_paths.specs.Finish.{IsPathAt}
use Rattle.whole_paths.specs.Mending.{IsRecordOf}
use Rattle.whole_paths.specs.Mild.{IsMildStart}
use Rattle.whole_paths.specs.WholeMappings.{HasRecord}

-- RCV.NXT of the peer lies at the beginning of a record of data or before it, or at its end or past it
abbrev pub NoneIsCut : PathState Carried → Type 0
NoneIsCut p = (s : Side) (r : Record) → HasRecord r (end_at s p) → r.kind ≡ Data
    → ((end_at (peer s) p).tcp.recv.edge ≤ r.pos) ⊎ (end_of r ≤ (end_at (peer s) p).tcp.recv.edge)

-- on path 0 of a mild connection with checksums, at every moment, for each record that isn't acknowledged whole
abbrev pub CheckedRecordsArePassedWhole : Type 0
CheckedRecordsArePassedWhole = (start : Start) (turns : List Turn) → IsMildStart start → start.checksums ≡ true → (c : ActorCrew Carried)
    → slice_get (reached values start turns).crew 2 ≡ Some c → HoldsOfKind (λ app. Unit {0}) NoneIsCut c.member

-- and without checksums, where neither end is dead
abbrev pub UncheckedRecordsArePassedWhole : Type 0
UncheckedRecordsArePassedWhole = (start : Start) (turns : List Turn) → IsMildStart start → start.checksums ≡ false → (p : PathState Carried)
    → IsPathAt 0 (reached values start turns) p → ((s : Side) → is_dead (end_at s p).tcp.state ≡ false) → (s : Side) (r : Record)
    → IsRecordOf (end_at s p) r → r.kind ≡ Data → ((end_at (peer s) p).tcp.recv.edge ≤ r.pos) ⊎ (end_of r ≤ (end_at (peer s) p).tcp.recv.edge)
