-- With checksums the mapping at RCV.NXT begins there, and it is whole as soon as a record is whose octets come first (RFC 8684, section 3.3.1).
use Rattle.std.specs.Prelude.{◌≡◌, Some, List, slice_get, ℕ}
use Rattle.sides.specs.declared.side.Side.{Side}
use Rattle.sides.specs.Side.{peer}
use Rattle.subflow_send.specs.Records.{Record, end_of}
use Rattle.subflow_send.specs.declared.record.RecordKind.TheVariants.{Data}
use Rattle.stream_lanes.specs.Words.{Has}
use Rattle.path_core.specs.End.{PathEnd}
use Rattle.path_core.specs.State.{PathState, end_at}
use Rattle.path_core.specs.Values.{Carried, values}
use Rattle.world_laws.specs.Actors.{ActorCrew}
use Rattle.world_laws.specs.Members.{HoldsOfKind}
use Rattle.world_laws.specs.Openings.{Start}
use Rattle.world_laws.specs.RoundDone.{reached}
use Rattle.world_laws.specs.Worlds.{Turn}
use Rattle.whole_paths.specs.InHand.{IsPartial}
use Rattle.whole_paths.specs.Kept.{IsSameRecord}
use Rattle.whole_paths.specs.Mild.{IsMildStart}

-- a record is one of the end's that isn't acknowledged, however often it was sent
abbrev pub HasRecord : Record → PathEnd → Type 0
HasRecord r e = Has (IsSameRecord r) e.tcp.send.records

-- up to the end of any record of an end that isn't acknowledged, one of data
abbrev pub NoneIsPartial : PathState Carried → Type 0
NoneIsPartial p = (s : Side) (r : Record) → HasRecord r (end_at s p) → r.kind ≡ Data → IsPartial (peer s) (end_of r) p → ⊥

-- on each path of a mild connection, at every moment
abbrev pub MappingsAreWhole : Type 0
MappingsAreWhole = (start : Start) (turns : List Turn) → IsMildStart start → (actor : ℕ) (c : ActorCrew Carried)
    → slice_get (reached values start turns).crew actor ≡ Some c → HoldsOfKind (λ app. Unit {0}) NoneIsPartial c.member
