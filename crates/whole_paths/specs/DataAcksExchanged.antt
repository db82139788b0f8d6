-- The exchange of an ask: what an end without a record asks comes to the peer, and the Data ACK that it waits for comes back (RFC 8684,
-- sections 3.3.2 and 3.3.3).
use Rattle.std.specs.Prelude.{ℕ, ◌+◌, ◌-◌, ◌^◌, ◌≡◌, ◌<◌, ◌≤◌, ◌⊎◌, Bool, true, false, None, Some, IsSome, List, [], slice_get}
use Rattle.sides.specs.declared.side.Side.{Side}
use Rattle.sides.specs.Side.{peer}
use Rattle.link_model.specs.Steps.{segments_sent}
use Rattle.subflow_send.specs.Records.{Record}
use Rattle.subflow_tcp.specs.States.{is_closed_to_segments}
use Rattle.actor_desk.specs.declared.ask.Note.{Note}
use Rattle.actor_desk.specs.Books.{StampedBooks}
use Rattle.path_core.specs.DataFin.{is_data_fin_owed}
use Rattle.path_core.specs.End.{PathEnd}
use Rattle.path_core.specs.State.{PathState, end_at}
use Rattle.path_core.specs.Values.{Carried, values}
use Rattle.world_laws.specs.declared.member.Member.TheVariants.{App, Path}
use Rattle.world_laws.specs.Actors.{Actor, ActorCrew}
use Rattle.world_laws.specs.Laws.{Always}
use Rattle.world_laws.specs.Members.{HoldsOfKind}
use Rattle.world_laws.specs.Openings.{Start, opened_world}
use Rattle.world_laws.specs.Outcomes.{was_told}
use Rattle.world_laws.specs.Promises.{HasRoom, NumbersFit, tells_refusal}
use Rattle.world_laws.specs.Worlds.{WorldState, Turn, after_turn, world_run}
use Rattle.whole_paths.specs.AsFar.{stage}
use Rattle.whole_paths.specs.Brought.{IsToReset}
use Rattle.whole_paths.specs.ClosingAsked.{OwesItsEnd}
use Rattle.whole_paths.specs.DataAcksAsked.{IsAskedAgain, IsAskedSo}
use Rattle.whole_paths.specs.DataAcksHeard.{IsHeard, IsPastTheEnd}
use Rattle.whole_paths.specs.DataAcksOwed.{IsDataAckFrom, KnowsWhereItSends}
use Rattle.whole_paths.specs.Exchanges.{AtEither, LetsThrough, IsHeldUp}
use Rattle.whole_paths.specs.Flights.{IsFirst, IsOnItsWay}
use Rattle.whole_paths.specs.Owed.{IsAnswered, IsAnsweredSo, IsToRefuse}
use Rattle.whole_paths.specs.Reasons.{IsOutstanding}

-- ---- an exchange

-- an end, all of whose records are acknowledged up to this position, asks by its DATA_FIN or by a probe, and the link leaves the copy as it is
pub record IsAskedPlainly (base : ℕ) (e : PathEnd) (stripped altered : Bool) : Type 0 where
  pub una : e.tcp.send.una ≡ base
  pub nxt : e.tcp.send.nxt ≡ base
  pub third : e.modes.owes_third ≡ false
  pub close : e.notices.fast_closed ≡ false
  pub ends : (is_data_fin_owed e ≡ false) ⊎ ((place : ℕ) × OwesItsEnd place e)
  pub edge : 0 < e.tcp.recv.edge
  pub unstripped : stripped ≡ false
  pub unaltered : altered ≡ false

-- how far the exchange is, if by this tick an answer is to come with a Data ACK of this place, or one past it, with the DATA_FIN or without
pub data IsInquired (s : Side) (place : ℕ) (fin : Bool) (by : ℕ) (p : PathState Carried) : Type 0 where
  -- the end asks, so early that the answer comes in time
  asks : (arrival : ℕ) → arrival + 400 ≤ by → (h : IsAskedAgain values s arrival p)
      → IsAskedSo (IsAskedPlainly (end_at s p).tcp.send.una) h → IsInquired s place fin by p
  -- the end has both SYNs, and the peer answers so
  answered : 2 ≤ stage (end_at s p).tcp.state → (h : IsAnswered values (peer s) 1 by p)
      → IsAnsweredSo (IsDataAckFrom (end_at s p).tcp.recv.edge (end_at (peer s) p).tcp.send.nxt place) h → IsInquired s place fin by p
  -- the end heard such a Data ACK, or hears it in its turn
  heard : (next : ℕ) → place ≤ next → IsHeard s next fin p → IsInquired s place fin by p

-- ---- what may come between

-- an end doesn't go by Data ACKs, or goes on to a reset
pub data IsAwry (s : Side) (steps : List Note) (p q : PathState Carried) : Type 0 where
  -- the end is reset next, or the peer is to refuse a copy, or to answer it dead
  reset : IsToReset s q.agenda → IsAwry s steps p q
  resets : IsToRefuse (peer s) p.agenda → IsAwry s steps p q
  -- the handshake of an end isn't done, or it may not send a DSS yet
  unopened : (t : Side) → stage (end_at t p).tcp.state ≤ 2 → IsAwry s steps p q
  unclear : (t : Side) → (end_at t p).modes.clear ≡ false → IsAwry s steps p q
  -- an end fell back to plain TCP, or the end sends by an infinite mapping
  plain : (t : Side) → AtEither (λ e. e.modes.identity ≡ true) t p q → IsAwry s steps p q
  infinite : IsSome (end_at s q).modes.own_infinite → IsAwry s steps p q
  -- the end asks for something else, or owes a DATA_FIN that has no place
  third : (end_at s p).modes.owes_third ≡ true → IsAwry s steps p q
  close : (end_at s p).notices.fast_closed ≡ true → IsAwry s steps p q
  endless : is_data_fin_owed (end_at s p) ≡ true → (end_at s p).sending.known_end ≡ None → IsAwry s steps p q
  -- the peer sent more than the end's window has room for
  past_window : (end_at s p).tcp.recv.edge + 1048576 < (end_at (peer s) p).tcp.send.nxt → IsAwry s steps p q
  -- the send book refused the Data ACK
  refused : was_told tells_refusal steps ≡ true → IsAwry s steps p q

-- ---- what becomes of it

-- as the path becomes another one, and its steps are these
pub data InquiryGoesOn (s : Side) (place : ℕ) (fin : Bool) (by : ℕ) (steps : List Note) (p q : PathState Carried) : Type 0 where
  on : IsInquired s place fin by q → InquiryGoesOn s place fin by steps p q
  -- the end, which had none, has a record again, which comes on its part (`WhatWaitsComes`), or nothing of it is outstanding any longer
  record_waits : (r : Record) (arrival : ℕ) → arrival ≤ by → (end_at s p).tcp.send.records ≡ [] → IsFirst r (end_at s q)
      → IsOnItsWay values s r arrival q → InquiryGoesOn s place fin by steps p q
  done : (IsOutstanding (end_at s q) → ⊥) → InquiryGoesOn s place fin by steps p q
  held_up : IsHeldUp s p q → InquiryGoesOn s place fin by steps p q
  awry : IsAwry s steps p q → InquiryGoesOn s place fin by steps p q

-- as the path becomes this actor, with fewer than 2^64 - 1 segments sent from each side
abbrev pub InquiriesGoOn : StampedBooks → List Note → Actor Carried → Actor Carried → Type 0
InquiriesGoOn books steps (Path p) (Path q) =
    LetsThrough p → (s : Side) (place : ℕ) (fin : Bool) (by : ℕ) → ((t : Side) → segments_sent t p.link < 2 ^ 64 - 1)
    → IsPastTheEnd books s place fin → KnowsWhereItSends (peer s) place p → IsInquired s place fin by p → InquiryGoesOn s place fin by steps p q
InquiriesGoOn books steps (App a) (App b) = Unit {0}
InquiriesGoOn books steps _ _ = ⊥

-- where a turn is over, of each end that opens, is open or closes, without a record: within a minute and 400 ticks there and back
abbrev pub InquiriesBegin : PathState Carried → Type 0
InquiriesBegin p = p.agenda ≡ [] → (s : Side) → is_closed_to_segments (end_at s p).tcp.state ≡ false → (end_at s p).tcp.send.records ≡ []
    → IsOutstanding (end_at s p)
    → (place : ℕ) (fin : Bool) → IsInquired s place fin (p.clock + 60000 + 400 + 400) p

-- once the clock is past its tick the end heard such a Data ACK, or hears it in its turn
pub record HasHeard (s : Side) (place : ℕ) (fin : Bool) (p : PathState Carried) : Type 0 where
  pub next : ℕ
  pub enough : place ≤ next
  pub hears : IsHeard s next fin p

abbrev pub InquiriesEnd : PathState Carried → Type 0
InquiriesEnd p = (s : Side) (place : ℕ) (fin : Bool) (by : ℕ) → IsInquired s place fin by p → by < p.clock → HasHeard s place fin p

-- on each path
pub record InquiriesAreInTime (w : WorldState Carried) : Type 0 where
  pub begin : (actor : ℕ) (c : ActorCrew Carried) → slice_get w.crew actor ≡ Some c → HoldsOfKind (λ app. Unit {0}) InquiriesBegin c.member
  pub end : (actor : ℕ) (c : ActorCrew Carried) → slice_get w.crew actor ≡ Some c → HoldsOfKind (λ app. Unit {0}) InquiriesEnd c.member

-- at any moment, and by any turn
pub record EachAskIsAnswered : Type 0 where
  pub in_time : Always values (λ start w. InquiriesAreInTime w)
  pub goes_on : (start : Start) (turns : List Turn) → HasRoom start → NumbersFit start
      → let w = world_run values turns (opened_world start) in
      (turn : Turn) (actor : ℕ) (c : ActorCrew Carried) → slice_get w.crew actor ≡ Some c
      → (d : ActorCrew Carried) × (slice_get (after_turn values turn w).crew actor ≡ Some d) × InquiriesGoOn w.books d.list c.member d.member
