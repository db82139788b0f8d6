-- How the SYN of A, and the SYN/ACK of B, come to the other end, whatever is lost (RFC 9293, section 3.5).
use Rattle.std.specs.Prelude.{ℕ, ◌+◌, ◌-◌, ◌^◌, ◌≡◌, ◌<◌, ◌≤◌, Bool, false, Some, None, List, [], slice_get}
use Rattle.sides.specs.declared.side.Side.{Side}
use Rattle.sides.specs.declared.side.Side.TheVariants.{A, B}
use Rattle.link_model.specs.Steps.{segments_sent}
use Rattle.subflow_send.specs.Records.{Record}
use Rattle.subflow_send.specs.declared.record.RecordKind.TheVariants.{Syn}
use Rattle.subflow_tcp.specs.Emitting.{acknowledged_in}
use Rattle.subflow_tcp.specs.declared.handshake.State.TheVariants.{Listen, SynReceived, SynSent}
use Rattle.path_core.specs.End.{PathEnd}
use Rattle.path_core.specs.State.{PathState, end_at}
use Rattle.path_core.specs.Values.{Carried, values}
use Rattle.world_laws.specs.declared.member.Member.TheVariants.{App, Path}
use Rattle.world_laws.specs.Actors.{Actor, ActorCrew}
use Rattle.world_laws.specs.Members.{HoldsOfKind}
use Rattle.world_laws.specs.Openings.{Start}
use Rattle.world_laws.specs.Promises.{HasRoom, NumbersFit}
use Rattle.world_laws.specs.RoundDone.{reached}
use Rattle.world_laws.specs.Worlds.{Turn, after_turn}
use Rattle.whole_paths.specs.AsFar.{stage}
use Rattle.whole_paths.specs.Exchanges.{IsFaithful, IsHeldUp}
use Rattle.whole_paths.specs.Flights.{IsOnItsWay, IsSentSo}

-- A's end sends its SYN with no acknowledgement, and B's with RCV.NXT, and the link leaves the copy as it is
pub record IsSynSent (s : Side) (e : PathEnd) (stripped altered : Bool) : Type 0 where
  pub asks : s ≡ A → acknowledged_in e.tcp ≡ None
  pub answers : s ≡ B → acknowledged_in e.tcp ≡ Some e.tcp.recv.edge
  pub edge : 0 < e.tcp.recv.edge
  pub unstripped : stripped ≡ false
  pub unaltered : altered ≡ false

-- A's end sent its SYN, for which B's listens; or B's took it
pub data IsToOpen (s : Side) (p : PathState Carried) : Type 0 where
  asks : s ≡ A → p.a.tcp.state ≡ SynSent → p.b.tcp.state ≡ Listen → IsToOpen s p
  answers : s ≡ B → p.a.tcp.state ≡ SynSent → p.b.tcp.state ≡ SynReceived → IsToOpen s p

-- a copy of the SYN of such an end comes by this tick
pub record IsSynAwaited (s : Side) (x : ℕ) (p : PathState Carried) : Type 0 where
  pub opens : IsToOpen s p
  pub syn : Record
  pub kind : syn.kind ≡ Syn
  pub first : syn.pos ≡ 0
  pub empty : syn.piece ≡ []
  pub way : IsOnItsWay values s syn x p
  pub sent : IsSentSo (IsSynSent s) way

-- as the path becomes another one: it is awaited still; or an end went further; or something holds it up
pub data SynGoesOn (s : Side) (x : ℕ) (p q : PathState Carried) : Type 0 where
  on : IsSynAwaited s x q → SynGoesOn s x p q
  further : (t : Side) → stage (end_at t p).tcp.state < stage (end_at t q).tcp.state → SynGoesOn s x p q
  held_up : IsHeldUp s p q → SynGoesOn s x p q

-- as the path becomes this actor, with fewer than 2^64 - 1 segments sent from each side
abbrev pub SynsGoOn : Actor Carried → Actor Carried → Type 0
SynsGoOn (Path p) (Path q) = IsFaithful p → ((t : Side) → segments_sent t p.link < 2 ^ 64 - 1) → (s : Side) (x : ℕ) → IsSynAwaited s x p → SynGoesOn s x p q
SynsGoOn (App a) (App b) = Unit {0}
SynsGoOn _ _ = ⊥

-- where a turn is over, within a minute and 400 ticks
abbrev pub SynsBegin : PathState Carried → Type 0
SynsBegin p = p.agenda ≡ [] → (s : Side) → IsToOpen s p → (end_at s p).tcp.send.una ≡ 0 → IsSynAwaited s (p.clock + 60000 + 400) p

-- the clock isn't past its tick
abbrev pub SynsEnd : PathState Carried → Type 0
SynsEnd p = (s : Side) (x : ℕ) → IsSynAwaited s x p → p.clock ≤ x

-- on path 0, at any moment, and by any turn
pub record EachSynComes : Type 0 where
  pub begin : (start : Start) (turns : List Turn) → HasRoom start → NumbersFit start → (c : ActorCrew Carried)
      → slice_get (reached values start turns).crew 2 ≡ Some c
      → HoldsOfKind (λ app. Unit {0}) SynsBegin c.member
  pub end : (start : Start) (turns : List Turn) → (actor : ℕ) (c : ActorCrew Carried) → slice_get (reached values start turns).crew actor ≡ Some c
      → HoldsOfKind (λ app. Unit {0}) SynsEnd c.member
  pub goes_on : (start : Start) (turns : List Turn) → HasRoom start → NumbersFit start
      → let w = reached values start turns in (turn : Turn) (actor : ℕ) (c : ActorCrew Carried) → slice_get w.crew actor ≡ Some c
      → (d : ActorCrew Carried) × (slice_get (after_turn values turn w).crew actor ≡ Some d) × SynsGoOn c.member d.member
