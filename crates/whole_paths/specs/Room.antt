-- An open end of which nothing is outstanding may ask for bytes (RFC 5681, section 3.1).
use Rattle.std.specs.Prelude.{ℕ, ◌≡◌, ◌≤◌, true, Some, List, [], slice_get}
use Rattle.sides.specs.declared.side.Side.{Side}
use Rattle.subflow_tcp.specs.States.{may_finish}
use Rattle.path_core.specs.Codec.{Codec}
use Rattle.path_core.specs.Emission.{may_ask}
use Rattle.path_core.specs.State.{PathState, end_at}
use Rattle.world_laws.specs.Actors.{ActorCrew}
use Rattle.world_laws.specs.Members.{HoldsOfKind}
use Rattle.world_laws.specs.Openings.{Start}
use Rattle.world_laws.specs.Promises.{HasRoom, NumbersFit}
use Rattle.world_laws.specs.RoundDone.{reached}
use Rattle.world_laws.specs.Worlds.{Turn}
use Rattle.whole_paths.specs.Reasons.{IsOutstanding}

module _ {C : Type 0} where
  -- The window of each end holds a full segment, and 2^20 octets at most. Where an end that is open and sent no FIN, and that may send a DSS, has
  -- no record left, or nothing of it is outstanding at all, it may ask for bytes.
  pub record HasWindows (p : PathState C) : Type 0 where
    pub least : (s : Side) → p.profile.mss ≤ (end_at s p).tcp.congestion.reno.window
    pub greatest : (s : Side) → (end_at s p).tcp.congestion.reno.window ≤ 1048576
    pub unsent : (s : Side) → may_finish (end_at s p).tcp.state ≡ true → (end_at s p).modes.clear ≡ true → (end_at s p).tcp.send.records ≡ []
        → may_ask p.profile s (end_at s p) ≡ true
    pub asks : (s : Side) → may_finish (end_at s p).tcp.state ≡ true → (end_at s p).modes.clear ≡ true → (IsOutstanding (end_at s p) → ⊥)
        → may_ask p.profile s (end_at s p) ≡ true

  -- on each path, at every moment
  abbrev pub WhoIsDoneMayAsk : Codec C → Type 0
  WhoIsDoneMayAsk k = (start : Start) (turns : List Turn) → HasRoom start → NumbersFit start
      → (actor : ℕ) (c : ActorCrew C) → slice_get (reached k start turns).crew actor ≡ Some c → HoldsOfKind (λ app. Unit {0}) HasWindows c.member
