-- In which states the ends of a path are until the handshake is done (RFC 9293, section 3.3.2).
use Rattle.std.specs.Prelude.{◌≡◌, ◌≤◌, List}
use Rattle.stream_lanes.specs.Words.{Every}
use Rattle.subflow_tcp.specs.declared.handshake.State.{State}
use Rattle.subflow_tcp.specs.declared.handshake.State.TheVariants.{Listen, SynReceived, SynSent, Waiting}
use Rattle.path_core.specs.Codec.{Codec}
use Rattle.path_core.specs.State.{PathState}
use Rattle.world_laws.specs.Actors.{ActorCrew}
use Rattle.world_laws.specs.Members.{HoldsOfKind}
use Rattle.world_laws.specs.Openings.{Start}
use Rattle.world_laws.specs.RoundDone.{reached}
use Rattle.world_laws.specs.Worlds.{Turn}
use Rattle.whole_paths.specs.AsFar.{stage}

-- A's end waits for its tick, or sent its SYN, or is past the handshake
pub data IsOfA (x : State) : Type 0 where
  waiting : x ≡ Waiting → IsOfA x
  sent : x ≡ SynSent → IsOfA x
  past : 3 ≤ stage x → IsOfA x

-- B's listens, or is half-open, or past it
pub data IsOfB (x : State) : Type 0 where
  listening : x ≡ Listen → IsOfB x
  half_open : x ≡ SynReceived → IsOfB x
  past : 3 ≤ stage x → IsOfB x

module _ {C : Type 0} where
  pub record GoByTheHandshake (p : PathState C) : Type 0 where
    pub a : IsOfA p.a.tcp.state
    pub b : IsOfB p.b.tcp.state

  -- on each path, at every moment
  abbrev pub EndsGoByTheHandshake : Codec C → Type 0
  EndsGoByTheHandshake k = (start : Start) (turns : List Turn)
      → Every (λ (c : ActorCrew C). HoldsOfKind (λ app. Unit {0}) (λ (p : PathState C). GoByTheHandshake p) c.member) (reached k start turns).crew
