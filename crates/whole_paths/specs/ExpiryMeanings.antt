-- What the exchange that an expiry begins is made of, by how far both ends are in the handshake: the SYN and the SYN/ACK, the first segment behind
-- them, and what an end past the handshake sends again (RFC 9293, sections 3.5 and 3.10.7).
use Rattle.std.specs.Prelude.{◌≡◌, ◌<◌, ◌≤◌, true, false, None}
use Rattle.sides.specs.declared.side.Side.{Side}
use Rattle.sides.specs.declared.side.Side.TheVariants.{A, B}
use Rattle.sides.specs.Side.{peer}
use Rattle.path_segments.specs.Laws.{meant}
use Rattle.path_segments.specs.Spelled.{PlainSegment}
use Rattle.subflow_tcp.specs.Segments.{occupied}
use Rattle.subflow_tcp.specs.declared.handshake.State.TheVariants.{SynReceived, SynSent}
use Rattle.path_agenda.specs.Agenda.{syn_again, syn_came}
use Rattle.path_core.specs.Arrival.{copy_of}
use Rattle.path_core.specs.State.{PathState, end_at}
use Rattle.path_core.specs.Values.{Carried}
use Rattle.whole_paths.specs.AsFar.{stage}
use Rattle.whole_paths.specs.ExpirySegments.{AcksSomething, AsksForAnAck, IsHeardInWindow}
use Rattle.whole_paths.specs.Opening.{IsSyn}

-- both ends are past the handshake
abbrev pub BothArePast : PathState Carried → Type 0
BothArePast p = (s : Side) → 3 ≤ stage (end_at s p).tcp.state

-- the first segment behind A's SYN: it occupies positions from 1 on, and acknowledges B's SYN
pub record IsFirstBehindSyn (x : PlainSegment) (p : PathState Carried) : Type 0 where
  pub acks : AcksSomething x
  pub syn : x.syn ≡ false
  pub sent : acks.up_to ≤ p.b.tcp.send.nxt
  pub position : x.position ≡ 1
  pub occupies : 0 < occupied (copy_of (meant x))

-- what this side's end sent again, so that its peer answers
pub data IsWanted (s : Side) (x : PlainSegment) (p : PathState Carried) : Type 0 where
  -- A's SYN, as long as A's end opens
  asks : s ≡ A → p.a.tcp.state ≡ SynSent → IsSyn x → x.acknowledged ≡ None → IsWanted s x p
  -- B's SYN/ACK, as long as B's end is half-open
  answers : s ≡ B → p.b.tcp.state ≡ SynReceived → IsSyn x → (acks : AcksSomething x) → acks.up_to ≤ p.a.tcp.send.nxt → IsWanted s x p
  -- A's first segment behind it, to B's half-open end
  first : s ≡ A → 3 ≤ stage p.a.tcp.state → p.b.tcp.state ≡ SynReceived → IsFirstBehindSyn x p → IsWanted s x p
  -- anything that the peer owes an acknowledgement for
  past : BothArePast p → AcksSomething x → AsksForAnAck (end_at (peer s) p) x → IsWanted s x p

-- what ends the row of this side's end
pub data EndsTheRow (s : Side) (x : PlainSegment) (p : PathState Carried) : Type 0 where
  -- the SYN/ACK, as long as A's end opens
  accepted : s ≡ A → p.a.tcp.state ≡ SynSent → IsSyn x → (acks : AcksSomething x) → acks.up_to ≤ p.a.tcp.send.nxt → EndsTheRow s x p
  heard : IsHeardInWindow s x p → EndsTheRow s x p

-- B's end was asked to open, and is to send its SYN/ACK
pub data IsOpeningNext (p : PathState Carried) : Type 0 where
  -- behind the asks that the SYN needs
  came : p.agenda ≡ syn_came B → IsOpeningNext p
  next : p.agenda ≡ syn_again B → IsOpeningNext p
  -- once more
  owes : p.b.tcp.due.syn_ack ≡ true → IsOpeningNext p

-- while A's end opens
pub record IsOpenedFor (s : Side) (p : PathState Carried) : Type 0 where
  pub side : s ≡ A
  pub state : p.a.tcp.state ≡ SynSent
  pub next : IsOpeningNext p
