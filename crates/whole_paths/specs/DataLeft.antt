-- What an open end waits for, but for its FIN: octets of data.
use Rattle.std.specs.Prelude.{◌≡◌, ◌<◌, false, Some, List, ◌∷◌, slice_get, ◌+◌, ◌≤◌, ◌⊎◌, ℕ}
use Rattle.sides.specs.declared.side.Side.{Side}
use Rattle.subflow_send.specs.Records.{Record, end_of}
use Rattle.subflow_send.specs.declared.record.RecordKind.TheVariants.{Data}
use Rattle.path_core.specs.State.{PathState, end_at}
use Rattle.path_core.specs.Values.{Carried, values}
use Rattle.world_laws.specs.Members.{HoldsOfKind}
use Rattle.world_laws.specs.Actors.{ActorCrew}
use Rattle.world_laws.specs.Openings.{Start}
use Rattle.world_laws.specs.Promises.{HasRoom, NumbersFit}
use Rattle.world_laws.specs.RoundDone.{reached}
use Rattle.world_laws.specs.Worlds.{Turn}
use Rattle.subflow_tcp.specs.States.{is_dead}
use Rattle.whole_paths.specs.AsFar.{stage}
use Rattle.path_core.specs.End.{PathEnd}

-- a record is one of data, and SND.UNA lies before its end, and SND.NXT not
pub record IsData (r : Record) (e : PathEnd) : Type 0 where
  pub kind : r.kind ≡ Data
  pub left : e.tcp.send.una < end_of r
  pub within : end_of r ≤ e.tcp.send.nxt

-- such a record is the first one of an end that is past the handshake and not dead, and sent no FIN, or has more than the FIN to be acknowledged
abbrev pub HasDataLeft : PathState Carried → Type 0
HasDataLeft p = (s : Side) → 3 ≤ stage (end_at s p).tcp.state → is_dead (end_at s p).tcp.state ≡ false → ((end_at s p).tcp.send.finished ≡ false)
    ⊎ ((end_at s p).tcp.send.una + 1 < (end_at s p).tcp.send.nxt) → (r : Record) (others : List Record)
    → (end_at s p).tcp.send.records ≡ r ∷ others → IsData r (end_at s p)

-- on each path, at every moment
abbrev pub WhatIsLeftIsData : Type 0
WhatIsLeftIsData = (start : Start) (turns : List Turn) → HasRoom start → NumbersFit start → (actor : ℕ) (c : ActorCrew Carried)
    → slice_get (reached values start turns).crew actor ≡ Some c
    → HoldsOfKind (λ app. Unit {0}) HasDataLeft c.member
