-- How many positions an end sends: of each byte that its path was granted one, and those of its SYN and its FIN (RFC 9293, section 3.4).
use Rattle.std.specs.Prelude.{ℕ, suc, ◌≤◌, ◌≡◌, Some, slice_get}
use Rattle.sides.specs.declared.side.Side.{Side}
use Rattle.stream_lanes.specs.Marks.{spent_count}
use Rattle.path_core.specs.State.{PathState, end_at, path_of}
use Rattle.path_core.specs.Values.{Carried}
use Rattle.world_laws.specs.Actors.{ActorCrew}
use Rattle.world_laws.specs.Members.{HoldsOfKind}
use Rattle.world_laws.specs.Promises.{written_by}
use Rattle.world_laws.specs.Worlds.{WorldState}

-- SND.NXT of each end lies two positions past the bytes at most that its path was granted, or may be granted no more
abbrev pub SendsWhatIsGranted : WorldState Carried → PathState Carried → Type 0
SendsWhatIsGranted w p = (s : Side) → (end_at s p).tcp.send.nxt ≤ suc (suc (spent_count (path_of p) (written_by s w).marks))

-- on each path
pub record PathsSendWhatIsGranted (w : WorldState Carried) : Type 0 where
  pub each : (actor : ℕ) (c : ActorCrew Carried) → slice_get w.crew actor ≡ Some c → HoldsOfKind (λ app. Unit {0}) (SendsWhatIsGranted w) c.member
