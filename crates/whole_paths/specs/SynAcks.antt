-- How the SYN/ACK of B, that comes again to an end past the handshake, is answered, so that B hears it (RFC 9293, section 3.10.7.4).
use Rattle.std.specs.Prelude.{ℕ, ◌+◌, ◌-◌, ◌^◌, ◌≡◌, ◌<◌, ◌≤◌, Some, List, [], slice_get}
use Rattle.sides.specs.declared.side.Side.{Side}
use Rattle.sides.specs.declared.side.Side.TheVariants.{A, B}
use Rattle.link_model.specs.Steps.{segments_sent}
use Rattle.subflow_send.specs.Records.{Record}
use Rattle.subflow_send.specs.declared.record.RecordKind.TheVariants.{Syn}
use Rattle.subflow_tcp.specs.declared.handshake.State.TheVariants.{SynReceived}
use Rattle.path_core.specs.State.{PathState}
use Rattle.path_core.specs.Values.{Carried, values}
use Rattle.world_laws.specs.declared.member.Member.TheVariants.{App, Path}
use Rattle.world_laws.specs.Actors.{Actor, ActorCrew}
use Rattle.world_laws.specs.Members.{HoldsOfKind}
use Rattle.world_laws.specs.Openings.{Start}
use Rattle.world_laws.specs.Promises.{HasRoom, NumbersFit}
use Rattle.world_laws.specs.RoundDone.{reached}
use Rattle.world_laws.specs.Worlds.{Turn, after_turn}
use Rattle.whole_paths.specs.AsFar.{stage}
use Rattle.whole_paths.specs.Delivery.{HasFinished}
use Rattle.whole_paths.specs.Exchanges.{IsBareWithin, IsFaithful, IsHeldUp}
use Rattle.whole_paths.specs.Flights.{IsOnItsWay, IsSentSo}
use Rattle.whole_paths.specs.Mild.{IsMildStart}
use Rattle.whole_paths.specs.Owed.{IsAnswered, IsAnsweredSo}
use Rattle.whole_paths.specs.Syns.{IsSynSent}

-- by this tick an answer is to come
pub data IsSynAnswered (x : ℕ) (p : PathState Carried) : Type 0 where
  -- a copy of B's SYN comes so early that the answer comes in time
  comes : (syn : Record) → syn.kind ≡ Syn → syn.pos ≡ 0 → syn.piece ≡ [] → (arrival : ℕ) → arrival + 400 ≤ x
      → (way : IsOnItsWay values B syn arrival p) → IsSentSo (IsSynSent B) way
      → IsSynAnswered x p
  -- A answers it
  answered : (h : IsAnswered values A 1 x p) → IsAnsweredSo (IsBareWithin p.b.tcp.recv.edge p.a.tcp.send.nxt) h → IsSynAnswered x p

-- A's end is past the handshake, or dead; B's is half-open, and its SYN isn't acknowledged
pub record IsToBeAnswered (x : ℕ) (p : PathState Carried) : Type 0 where
  pub past : 3 ≤ stage p.a.tcp.state
  pub half_open : p.b.tcp.state ≡ SynReceived
  pub unheard : p.b.tcp.send.una ≡ 0
  pub exchange : IsSynAnswered x p

-- as the path becomes another one: it is awaited still; or B's end went further; or something holds it up
pub data SynAckGoesOn (x : ℕ) (p q : PathState Carried) : Type 0 where
  on : IsToBeAnswered x q → SynAckGoesOn x p q
  further : stage p.b.tcp.state < stage q.b.tcp.state → SynAckGoesOn x p q
  held_up : IsHeldUp B p q → SynAckGoesOn x p q
  -- A sent its FIN, so that all of its side's stream is with the peer
  finished : HasFinished p.a → SynAckGoesOn x p q

-- as the path becomes this actor, with fewer than 2^64 - 1 segments sent from each side
abbrev pub SynAcksGoOn : Actor Carried → Actor Carried → Type 0
SynAcksGoOn (Path p) (Path q) = IsFaithful p → ((t : Side) → segments_sent t p.link < 2 ^ 64 - 1) → (x : ℕ) → IsToBeAnswered x p → SynAckGoesOn x p q
SynAcksGoOn (App a) (App b) = Unit {0}
SynAcksGoOn _ _ = ⊥

-- where a turn is over, within a minute and 400 ticks there and back
abbrev pub SynAcksBegin : PathState Carried → Type 0
SynAcksBegin p = p.agenda ≡ [] → 3 ≤ stage p.a.tcp.state → p.b.tcp.state ≡ SynReceived → p.b.tcp.send.una ≡ 0
    → IsToBeAnswered (p.clock + 60000 + 400 + 400) p

-- the clock isn't past its tick
abbrev pub SynAcksEnd : PathState Carried → Type 0
SynAcksEnd p = (x : ℕ) → IsToBeAnswered x p → p.clock ≤ x

-- on path 0, at any moment, and by any turn of a mild connection
pub record EachSynAckIsAnswered : Type 0 where
  pub begin : (start : Start) (turns : List Turn) → HasRoom start → NumbersFit start → (c : ActorCrew Carried)
      → slice_get (reached values start turns).crew 2 ≡ Some c
      → HoldsOfKind (λ app. Unit {0}) SynAcksBegin c.member
  pub end : (start : Start) (turns : List Turn) → (actor : ℕ) (c : ActorCrew Carried) → slice_get (reached values start turns).crew actor ≡ Some c
      → HoldsOfKind (λ app. Unit {0}) SynAcksEnd c.member
  pub goes_on : (start : Start) (turns : List Turn) → IsMildStart start → let w = reached values start turns in (turn : Turn) (c : ActorCrew Carried)
      → slice_get w.crew 2 ≡ Some c
      → (d : ActorCrew Carried) × (slice_get (after_turn values turn w).crew 2 ≡ Some d) × SynAcksGoOn c.member d.member
