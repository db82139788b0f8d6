-- No end sends more than its peer's window of 2^20 positions has room for (RFC 5681, section 2).
use Rattle.std.specs.Prelude.{◌+◌, ◌≡◌, ◌≤◌, Some, List, slice_get, ℕ}
use Rattle.sides.specs.declared.side.Side.{Side}
use Rattle.path_core.specs.State.{PathState, end_at}
use Rattle.path_core.specs.Values.{Carried, values}
use Rattle.world_laws.specs.Actors.{ActorCrew}
use Rattle.world_laws.specs.Members.{HoldsOfKind}
use Rattle.world_laws.specs.Openings.{Start}
use Rattle.world_laws.specs.RoundDone.{reached}
use Rattle.world_laws.specs.Worlds.{Turn}
use Rattle.whole_paths.specs.Mild.{IsMildStart}
use Rattle.whole_paths.specs.News.{one_if}

-- SND.NXT of each end lies 2^20 positions past SND.UNA at most, and one more once it sent its FIN
abbrev pub StaysWithin : PathState Carried → Type 0
StaysWithin p = (s : Side) → (end_at s p).tcp.send.nxt ≤ (end_at s p).tcp.send.una + 1048576 + one_if (end_at s p).tcp.send.finished

-- on each path of a mild connection, at every moment
abbrev pub NoEndOverruns : Type 0
NoEndOverruns = (start : Start) (turns : List Turn) → IsMildStart start → (actor : ℕ) (c : ActorCrew Carried) → slice_get (reached values start turns).crew actor ≡ Some c
    → HoldsOfKind (λ app. Unit {0}) StaysWithin c.member
