-- The exchange of a record: a copy of it comes to the peer, which passes its octets, and an answer that says so comes back (RFC 9293,
-- section 3.10.7.4).
use Rattle.std.specs.Prelude.{ℕ, ◌+◌, ◌-◌, ◌^◌, ◌≡◌, ◌<◌, ◌≤◌, ◌⊎◌, Bool, true, false, None, Some, IsSome, List, [], ◌∷◌, slice_get}
use Rattle.sides.specs.declared.side.Side.{Side}
use Rattle.sides.specs.Side.{peer}
use Rattle.path_segments.specs.Spelled.{PlainSegment}
use Rattle.fallback_state.specs.Modes.{reads_mappings}
use Rattle.link_model.specs.Steps.{segments_sent}
use Rattle.subflow_send.specs.Records.{Record, end_of}
use Rattle.subflow_send.specs.declared.record.RecordKind.TheVariants.{Data}
use Rattle.subflow_tcp.specs.Emitting.{acknowledged_in}
use Rattle.subflow_tcp.specs.State.{is_fin_passed}
use Rattle.subflow_tcp.specs.States.{is_closed_to_segments, is_dead}
use Rattle.path_store.specs.declared.lines.LineAction.TheVariants as actions
use Rattle.path_store.specs.declared.lines.LineLeft.{LineLeft}
use Rattle.path_core.specs.Deliver.{failing_mapping}
use Rattle.path_core.specs.DssOut.{is_first_piece}
use Rattle.path_core.specs.End.{PathEnd}
use Rattle.path_core.specs.Events.{next_event}
use Rattle.path_core.specs.MpJoin.{is_joined}
use Rattle.path_core.specs.Profile.{Profile}
use Rattle.path_core.specs.Shown.{AltersNothing}
use Rattle.path_core.specs.State.{PathState, end_at}
use Rattle.path_core.specs.Values.{Carried, values}
use Rattle.path_core.specs.declared.events.Event.TheVariants as happenings
use Rattle.world_laws.specs.declared.member.Member.TheVariants.{App, Path}
use Rattle.world_laws.specs.Actors.{Actor, ActorCrew}
use Rattle.world_laws.specs.Laws.{Always}
use Rattle.world_laws.specs.Members.{HoldsOfKind}
use Rattle.world_laws.specs.NeverFalls.{StripsNothing}
use Rattle.world_laws.specs.Openings.{Start, opened_world}
use Rattle.world_laws.specs.Promises.{HasRoom, NumbersFit}
use Rattle.world_laws.specs.Worlds.{WorldState, Turn, after_turn, world_run}
use Rattle.whole_paths.specs.Arrivals.{HasItsMapping, HasJoined}
use Rattle.whole_paths.specs.AsFar.{stage}
use Rattle.whole_paths.specs.Brought.{FailsItsCheck, IsToReset, IsUnsure}
use Rattle.whole_paths.specs.Flights.{IsFirst, IsOnItsWay, IsSentSo}
use Rattle.whole_paths.specs.Finish.{is_harmed}
use Rattle.whole_paths.specs.InHand.{IsInHand, IsPartial}
use Rattle.whole_paths.specs.Owed.{IsAnswered, IsAnsweredSo, IsToRefuse}
use Rattle.whole_paths.specs.Waits.{IsNews}

-- ---- where

-- The path opens the connection, and no line of the script takes options away on it, or alters payload.
pub record IsFaithful (p : PathState Carried) : Type 0 where
  pub joined : is_joined p.profile ≡ false
  pub whole : StripsNothing p.link.lines
  pub plain : AltersNothing p.link.lines

-- No line of the script takes options away on the path, or alters payload; and where the path joined, both ends are past the handshake.
pub record LetsThrough (p : PathState Carried) : Type 0 where
  pub joined : (s : Side) → HasJoined s p
  pub whole : StripsNothing p.link.lines
  pub plain : AltersNothing p.link.lines

-- ---- an exchange

-- an end with both SYNs sends the record with its own mapping, and the link leaves the copy as it is
pub record IsSentWhole (c : Profile) (s : Side) (r : Record) (e : PathEnd) (stripped altered : Bool) : Type 0 where
  pub mapped : HasItsMapping c s r e
  pub acknowledges : acknowledged_in e.tcp ≡ Some e.tcp.recv.edge
  pub edge : 0 < e.tcp.recv.edge
  pub unstripped : stripped ≡ false
  pub unaltered : altered ≡ false

-- the segment acknowledges and nothing more, and stands between these positions
pub record IsBareWithin (edge next : ℕ) (x : PlainSegment) : Type 0 where
  pub from : edge ≤ x.position
  pub up_to : x.position ≤ next
  pub syn : x.syn ≡ false
  pub fin : x.fin ≡ false
  pub payload : x.payload ≡ []

-- how far the exchange of a record is that this side's end sends, if by this tick an answer is to come
pub data IsExchanged (s : Side) (r : Record) (by : ℕ) (p : PathState Carried) : Type 0 where
  -- the record is the first that isn't acknowledged, and a copy of it comes so early that the answer comes in time
  comes : (arrival : ℕ) → arrival + 400 ≤ by → IsFirst r (end_at s p) → (way : IsOnItsWay values s r arrival p)
      → IsSentSo (IsSentWhole p.profile s r) way
      → IsExchanged s r by p
  -- the end has both SYNs, and the peer has all of it in hand, or answers that its RCV.NXT is at the end of the record, or past it
  in_hand : 2 ≤ stage (end_at s p).tcp.state → IsInHand (peer s) (end_of r) by p → IsExchanged s r by p
  answered : 2 ≤ stage (end_at s p).tcp.state → (h : IsAnswered values (peer s) (end_of r) by p)
      → IsAnsweredSo (IsBareWithin (end_at s p).tcp.recv.edge (end_at (peer s) p).tcp.send.nxt) h → IsExchanged s r by p
  -- SND.UNA is at its end, or past it
  acknowledged : end_of r ≤ (end_at s p).tcp.send.una → IsExchanged s r by p

-- ---- what may come between

-- this holds of the side's end, of a path or of what it becomes
abbrev pub AtEither : (PathEnd → Type 0) → Side → PathState Carried → PathState Carried → Type 0
AtEither Holds t p q = Holds (end_at t p) ⊎ Holds (end_at t q)

-- there is news, or a segment of the exchange is harmed, or an end of the path dies
pub data IsHeldUp (s : Side) (p q : PathState Carried) : Type 0 where
  news : IsNews (end_at s p) (end_at s q) → IsHeldUp s p q
  -- octets of the peer's came in order
  more_came : (end_at s p).tcp.recv.edge < (end_at s q).tcp.recv.edge → IsHeldUp s p q
  harmed : (t : Side) → is_harmed t p q ≡ true → IsHeldUp s p q
  -- an end is dead, or the line came next by which the path died
  gone : (t : Side) → AtEither (λ e. is_dead e.tcp.state ≡ true) t p q → IsHeldUp s p q
  dies : (line : LineLeft) → next_event p ≡ Some (happenings.Takes line) → line.action ≡ actions.Die → is_dead q.a.tcp.state ≡ true → IsHeldUp s p q

-- an end doesn't go by the mappings of pieces, or goes on to a reset
pub data IsAstray (s : Side) (r : Record) (p q : PathState Carried) : Type 0 where
  -- the peer is reset next, or refuses a copy, or answers it by a reset
  reset : IsToReset (peer s) q.agenda → IsAstray s r p q
  resets : IsToRefuse (peer s) p.agenda → IsAstray s r p q
  -- the peer is past the end's FIN
  behind_fin : is_fin_passed (end_at (peer s) q).tcp ≡ true → IsAstray s r p q
  -- the peer hasn't both SYNs, or its handshake isn't done, though its RCV.NXT is past the record
  unopened : stage (end_at (peer s) p).tcp.state ≤ 1 → IsAstray s r p q
  half_open : stage (end_at (peer s) p).tcp.state ≤ 2 → end_of r ≤ (end_at (peer s) p).tcp.recv.edge → IsAstray s r p q
  -- as B the peer hasn't both keys, or it hasn't the end's key
  unsure : IsUnsure (peer s) (end_at (peer s) q) → IsAstray s r p q
  unkeyed : (end_at (peer s) q).modes.peer_key ≡ None → IsAstray s r p q
  -- an end fell back to plain TCP, or the end sends by an infinite mapping
  plain : (t : Side) → AtEither (λ e. e.modes.identity ≡ true) t p q → IsAstray s r p q
  infinite : IsSome (end_at s p).modes.own_infinite ⊎ IsSome (end_at (peer s) p).modes.peer_infinite → IsAstray s r p q
  -- the peer sent more than the end's window has room for
  past_window : (end_at s p).tcp.recv.edge + 1048576 < (end_at (peer s) p).tcp.send.nxt → IsAstray s r p q
  -- with checksums: at the peer a mapping fails its check, or the control book isn't told of that; or the mapping at its RCV.NXT isn't whole
  fails : FailsItsCheck (peer s) p ⊎ IsSome (failing_mapping p.profile (end_at (peer s) p)) → IsAstray s r p q
  untold : q.profile.spelling.checksums ≡ true → reads_mappings (end_at (peer s) q).modes.mode ≡ false → (end_at (peer s) q).modes.identity ≡ false
      → IsAstray s r p q
  partial : IsPartial (peer s) (end_of r) p → IsAstray s r p q
  -- the record is A's first piece, which carries both keys
  first_piece : is_first_piece s r (end_at s p) ≡ true → IsAstray s r p q

-- ---- what becomes of it

-- as the path becomes another one
pub data ExchangeGoesOn (s : Side) (r : Record) (by : ℕ) (p q : PathState Carried) : Type 0 where
  on : IsExchanged s r by q → ExchangeGoesOn s r by p q
  held_up : IsHeldUp s p q → ExchangeGoesOn s r by p q
  astray : IsAstray s r p q → ExchangeGoesOn s r by p q

-- of each record of data, as the path becomes this actor, with fewer than 2^64 - 1 segments sent from each side
abbrev pub ExchangesGoOn : Actor Carried → Actor Carried → Type 0
ExchangesGoOn (Path p) (Path q) =
    LetsThrough p → (s : Side) (r : Record) (by : ℕ) → r.kind ≡ Data → ((t : Side) → segments_sent t p.link < 2 ^ 64 - 1) → IsExchanged s r by p
    → ExchangeGoesOn s r by p q
ExchangesGoOn (App a) (App b) = Unit {0}
ExchangesGoOn _ _ = ⊥

-- where a turn is over, with the first record of each end that opens, is open or closes: within a minute and 400 ticks there and back
abbrev pub ExchangesBegin : PathState Carried → Type 0
ExchangesBegin p = p.agenda ≡ [] → (s : Side) → is_closed_to_segments (end_at s p).tcp.state ≡ false → (r : Record) (others : List Record)
    → (end_at s p).tcp.send.records ≡ r ∷ others → IsExchanged s r (p.clock + 60000 + 400 + 400) p

-- once the clock is past its tick SND.UNA is at the record's end, or past it
abbrev pub ExchangesEnd : PathState Carried → Type 0
ExchangesEnd p = (s : Side) (r : Record) (by : ℕ) → IsExchanged s r by p → by < p.clock → end_of r ≤ (end_at s p).tcp.send.una

-- on each path
pub record ExchangesAreInTime (w : WorldState Carried) : Type 0 where
  pub begin : (actor : ℕ) (c : ActorCrew Carried) → slice_get w.crew actor ≡ Some c → HoldsOfKind (λ app. Unit {0}) ExchangesBegin c.member
  pub end : (actor : ℕ) (c : ActorCrew Carried) → slice_get w.crew actor ≡ Some c → HoldsOfKind (λ app. Unit {0}) ExchangesEnd c.member

-- at any moment, and by any turn
pub record EachRecordIsAcknowledged : Type 0 where
  pub in_time : Always values (λ start w. ExchangesAreInTime w)
  pub goes_on : (start : Start) (turns : List Turn) → HasRoom start → NumbersFit start → let w = world_run values turns (opened_world start) in
      (turn : Turn) (actor : ℕ) (c : ActorCrew Carried) → slice_get w.crew actor ≡ Some c
      → (d : ActorCrew Carried) × (slice_get (after_turn values turn w).crew actor ≡ Some d) × ExchangesGoOn c.member d.member
