-- The exchange of a window: an end without a record asks for it by its probe, or by its DATA_FIN, and a window comes back up to the place that
-- it waits for (RFC 9293, section 3.8.6.1; RFC 8684, section 3.3.5).
use Rattle.std.specs.Prelude.{ℕ, ◌+◌, ◌-◌, ◌^◌, ◌≡◌, ◌<◌, ◌≤◌, false, Some, List, [], slice_get}
use Rattle.sides.specs.declared.side.Side.{Side}
use Rattle.sides.specs.Side.{peer}
use Rattle.path_segments.specs.Laws.{meant}
use Rattle.path_segments.specs.Spelled.{PlainSegment}
use Rattle.link_model.specs.Steps.{segments_sent}
use Rattle.subflow_send.specs.Records.{Record}
use Rattle.subflow_tcp.specs.States.{is_closed_to_segments, is_dead}
use Rattle.actor_desk.specs.declared.ask.Note.{Note}
use Rattle.actor_desk.specs.Books.{books_in}
use Rattle.actor_desk.specs.Desk.{SixBooks, send_of}
use Rattle.path_core.specs.State.{PathState, end_at}
use Rattle.path_core.specs.Values.{Carried, values}
use Rattle.world_laws.specs.Actors.{ActorCrew}
use Rattle.world_laws.specs.Laws.{Always}
use Rattle.world_laws.specs.Members.{HoldsOfKind}
use Rattle.world_laws.specs.Openings.{Start, opened_world}
use Rattle.world_laws.specs.Promises.{HasRoom, NumbersFit}
use Rattle.world_laws.specs.Worlds.{WorldState, Turn, after_turn, world_run}
use Rattle.whole_paths.specs.AsFar.{stage}
use Rattle.whole_paths.specs.Between.{PathsBetween}
use Rattle.whole_paths.specs.DataAcksAsked.{IsAskedAgain, IsAskedSo}
use Rattle.whole_paths.specs.DataAcksExchanged.{IsAskedPlainly, IsAwry}
use Rattle.whole_paths.specs.DataAcksOwed.{IsDataAckFrom}
use Rattle.whole_paths.specs.Exchanges.{LetsThrough, IsHeldUp}
use Rattle.whole_paths.specs.Flights.{IsFirst, IsOnItsWay}
use Rattle.whole_paths.specs.Offered.{OffersWhereItSends}
use Rattle.whole_paths.specs.Owed.{IsAnswered, IsAnsweredSo}
use Rattle.whole_paths.specs.Reasons.{IsOutstanding}
use Rattle.whole_paths.specs.WindowsHeard.{IsOpenTo}

-- ---- an exchange, whatever is asked for

-- How far it is, if by this tick an answer is to come, at the end's RCV.NXT or behind it, of which this is said; and what the end hears.
pub data IsAskedFor (Says : ℕ → ℕ → PlainSegment → Type 0) (Hears : PathState Carried → Type 0) (s : Side) (by : ℕ) (p : PathState Carried) : Type 0 where
  -- the end asks, so early that the answer comes in time
  asks : (arrival : ℕ) → arrival + 400 ≤ by → (h : IsAskedAgain values s arrival p)
      → IsAskedSo (IsAskedPlainly (end_at s p).tcp.send.una) h → IsAskedFor Says Hears s by p
  -- the end has both SYNs, and the peer answers so
  answered : 2 ≤ stage (end_at s p).tcp.state → (h : IsAnswered values (peer s) 1 by p)
      → IsAnsweredSo (Says (end_at s p).tcp.recv.edge (end_at (peer s) p).tcp.send.nxt) h → IsAskedFor Says Hears s by p
  heard : Hears p → IsAskedFor Says Hears s by p

-- what becomes of it, as the path becomes another one, and its steps are these
pub data AskTurns (On : Type 0) (s : Side) (by : ℕ) (steps : List Note) (p q : PathState Carried) : Type 0 where
  on : On → AskTurns On s by steps p q
  -- the end, which had none, has a record again, which comes on its part (`WhatWaitsComes`), or nothing of it is outstanding any longer
  record_waits : (r : Record) (arrival : ℕ) → arrival ≤ by → (end_at s p).tcp.send.records ≡ [] → IsFirst r (end_at s q)
      → IsOnItsWay values s r arrival q → AskTurns On s by steps p q
  done : (IsOutstanding (end_at s q) → ⊥) → AskTurns On s by steps p q
  held_up : IsHeldUp s p q → AskTurns On s by steps p q
  awry : IsAwry s steps p q → AskTurns On s by steps p q

-- ---- of a window

-- the acknowledgement, between these positions of its subflow, tells a window up to this place, as its octets say it
pub record TellsWindow (at edge last : ℕ) (x : PlainSegment) : Type 0 where
  pub ack : IsDataAckFrom edge last 0 x
  pub opens : at ≤ ack.next + (meant x).window

-- the end asks, and is to hear that its side may send up to this place
abbrev pub IsProbed : SixBooks → Side → ℕ → ℕ → PathState Carried → Type 0
IsProbed six s at by p = IsAskedFor (TellsWindow at) (IsOpenTo six s at) s by p

-- As the path becomes another one, with fewer than 2^64 - 1 segments sent from each side. What the octets can't tell of a window is less than
-- 32, so that the peer knows as it sends that 31 bytes more are taken.
abbrev pub ProbesGoOn : SixBooks → SixBooks → List Note → PathState Carried → PathState Carried → Type 0
ProbesGoOn six after steps p q =
    LetsThrough p → (s : Side) (at by : ℕ) → ((t : Side) → segments_sent t p.link < 2 ^ 64 - 1) → OffersWhereItSends (peer s) (at + 31) p
    → IsProbed six s at by p → AskTurns (IsProbed after s at by q) s by steps p q

-- where a turn is over, of each end that opens, is open or closes, without a record: within a minute and 400 ticks there and back
abbrev pub ProbesBegin : SixBooks → PathState Carried → Type 0
ProbesBegin six p = p.agenda ≡ [] → (s : Side) → is_closed_to_segments (end_at s p).tcp.state ≡ false → (end_at s p).tcp.send.records ≡ []
    → IsOutstanding (end_at s p)
    → (at : ℕ) → IsProbed six s at (p.clock + 60000 + 400 + 400) p

-- once the clock is past its tick the side may send so far, or hears so in its turn
abbrev pub ProbesEnd : SixBooks → PathState Carried → Type 0
ProbesEnd six p = (s : Side) (at by : ℕ) → IsProbed six s at by p → by < p.clock → IsOpenTo six s at p

-- where a turn is over in a round that ends past its tick, and the peer isn't dead, the side may send so far
abbrev pub ProbesAreDue : SixBooks → PathState Carried → Type 0
ProbesAreDue six p = p.agenda ≡ [] → (s : Side) → is_dead (end_at (peer s) p).tcp.state ≡ false → (at by : ℕ) → IsProbed six s at by p → by < p.until
    → at ≤ (send_of s six).edge

-- on each path
pub record ProbesAreInTime (w : WorldState Carried) : Type 0 where
  pub begin : (actor : ℕ) (c : ActorCrew Carried) → slice_get w.crew actor ≡ Some c → HoldsOfKind (λ app. Unit {0}) (ProbesBegin (books_in w.books)) c.member
  pub end : (actor : ℕ) (c : ActorCrew Carried) → slice_get w.crew actor ≡ Some c → HoldsOfKind (λ app. Unit {0}) (ProbesEnd (books_in w.books)) c.member
  pub due : (actor : ℕ) (c : ActorCrew Carried) → slice_get w.crew actor ≡ Some c → HoldsOfKind (λ app. Unit {0}) (ProbesAreDue (books_in w.books)) c.member

-- at any moment, and by any turn
pub record EachProbeIsAnswered : Type 0 where
  pub in_time : Always values (λ start w. ProbesAreInTime w)
  pub goes_on : (start : Start) (turns : List Turn) → HasRoom start → NumbersFit start → let w = world_run values turns (opened_world start) in
      (turn : Turn) (actor : ℕ) (c : ActorCrew Carried) → slice_get w.crew actor ≡ Some c → let v = after_turn values turn w in
      (d : ActorCrew Carried) × (slice_get v.crew actor ≡ Some d) × PathsBetween ProbesGoOn w.books v.books d.list c.member d.member
