-- How the first record that isn't acknowledged comes to the peer, whatever is lost.
use Rattle.std.specs.Prelude.{ℕ, ◌+◌, ◌-◌, ◌^◌, ◌≡◌, ◌<◌, ◌≤◌, Bool, true, false, Some, List, [], ◌∷◌, slice_get}
use Rattle.sides.specs.declared.side.Side.{Side}
use Rattle.sides.specs.Side.{peer}
use Rattle.path_segments.specs.Spelled.{PlainSegment}
use Rattle.link_model.specs.declared.flight.Flight.{Flight}
use Rattle.link_model.specs.Steps.{changed, due_of, segments_sent}
use Rattle.subflow_send.specs.Records.{Record}
use Rattle.subflow_tcp.specs.States.{is_closed_to_segments, is_dead}
use Rattle.path_store.specs.declared.lines.LineAction.TheVariants as actions
use Rattle.path_store.specs.declared.lines.LineLeft.{LineLeft}
use Rattle.path_agenda.specs.declared.duty.Duty.{Duty}
use Rattle.path_agenda.specs.declared.duty.Duty.TheVariants as duties
use Rattle.path_agenda.specs.declared.duty.StepDuty.TheVariants as step_duties
use Rattle.path_core.specs.Codec.{Codec}
use Rattle.path_core.specs.End.{PathEnd}
use Rattle.path_core.specs.Events.{next_event}
use Rattle.path_core.specs.Shown.{AltersNothing}
use Rattle.path_core.specs.State.{PathState, end_at}
use Rattle.path_core.specs.declared.events.Event.TheVariants as happenings
use Rattle.world_laws.specs.declared.member.Member.TheVariants.{App, Path}
use Rattle.world_laws.specs.Actors.{Actor, ActorCrew}
use Rattle.world_laws.specs.Laws.{Always}
use Rattle.world_laws.specs.Members.{HoldsOfKind}
use Rattle.world_laws.specs.NeverFalls.{StripsNothing}
use Rattle.world_laws.specs.Worlds.{WorldState, Turn, after_turn}
use Rattle.whole_paths.specs.Copies.{IsUnderWay, LinksAreNumbered}
use Rattle.whole_paths.specs.Expiries.{IsSegmentOf, IsSaidAt, IsToSendAgain}
use Rattle.whole_paths.specs.Finish.{is_harmed}
use Rattle.whole_paths.specs.InTime.{NothingIsOverdue}
use Rattle.whole_paths.specs.Kept.{IsSameRecord}
use Rattle.whole_paths.specs.Waits.{RunsTo, IsNews}

-- a record is the first of the end's that isn't acknowledged, however often it was sent
pub record IsFirst (r : Record) (e : PathEnd) : Type 0 where
  pub first : Record
  pub others : List Record
  pub records : e.tcp.send.records ≡ first ∷ others
  pub same : IsSameRecord r first

module _ {C : Type 0} where
  -- what the link makes of a segment of the record, as the end was that sent it, on its way to the peer
  pub record IsCopyOf (k : Codec C) (s : Side) (r : Record) (p : PathState C) (f : Flight C) : Type 0 where
    pub to : f.to ≡ peer s
    pub segment : PlainSegment
    pub of_it : IsSegmentOf r segment
    pub sender : PathEnd
    pub says : IsSaidAt p.profile s r sender segment
    -- where no line of the path takes options away none were, and where none alters payload the copy's wasn't
    pub stripped : Bool
    pub altered : Bool
    pub whole : StripsNothing p.link.lines → stripped ≡ false
    pub plain : AltersNothing p.link.lines → altered ≡ false
    pub carried : f.carried ≡ changed (k.strips p.profile.spelling s) (k.alters p.profile.spelling s) stripped altered (k.makes p.profile.spelling s segment)

  -- A copy of it comes by this tick, unless it is harmed: 400 ticks, twice the longest delay, after the timer runs out, or from now on, where the record
  -- is to be sent again; or the copy is under way.
  pub data IsOnItsWay (k : Codec C) (s : Side) (r : Record) (by : ℕ) (p : PathState C) : Type 0 where
    waits : (tick : ℕ) → tick + 400 ≤ by → RunsTo tick (end_at s p) → IsFirst r (end_at s p) → IsOnItsWay k s r by p
    resends : p.clock + 400 ≤ by → IsToSendAgain s p → IsFirst r (end_at s p) → IsOnItsWay k s r by p
    flies : (f : Flight C) → f.tick ≤ by → IsUnderWay f p → IsCopyOf k s r p f → IsOnItsWay k s r by p

  -- what becomes of it, as the path becomes another one
  pub data GoesOnTo (k : Codec C) (s : Side) (r : Record) (by : ℕ) (p q : PathState C) : Type 0 where
    -- by the same tick
    on : IsOnItsWay k s r by q → GoesOnTo k s r by p q
    -- a copy of it was what arrives next
    arrives : (f : Flight C) → f.tick ≤ by → IsUnderWay f p → IsCopyOf k s r p f → (others : List Duty) → p.agenda ≡ duties.Step step_duties.Events ∷ others
        → next_event p ≡ Some (happenings.Arrives (due_of f)) → GoesOnTo k s r by p q
    -- there is news, or its segment is harmed
    news : IsNews (end_at s p) (end_at s q) → GoesOnTo k s r by p q
    harmed : is_harmed s p q ≡ true → GoesOnTo k s r by p q
    -- the end is dead, or the line came next by which the path died
    gone : is_dead (end_at s q).tcp.state ≡ true → GoesOnTo k s r by p q
    dies : (line : LineLeft) → next_event p ≡ Some (happenings.Takes line) → line.action ≡ actions.Die → is_dead q.a.tcp.state ≡ true → GoesOnTo k s r by p q

  -- of a copy under way, that this holds of its sender, as the link took the copy, and of whether that took its options away, or altered it
  abbrev pub IsSentSo : {k : Codec C} {s : Side} {r : Record} {by : ℕ} {p : PathState C} → (PathEnd → Bool → Bool → Type 0) → IsOnItsWay k s r by p → Type 0
  IsSentSo Was (flies f low there copy) = Was copy.sender copy.stripped copy.altered
  IsSentSo Was _ = Unit {0}

  -- and of the copy that arrives
  abbrev pub ComesSo : {k : Codec C} {s : Side} {r : Record} {by : ℕ} {p q : PathState C} → (PathEnd → Bool → Bool → Type 0) → GoesOnTo k s r by p q → Type 0
  ComesSo Was (on way) = IsSentSo Was way
  ComesSo Was (arrives f low there copy others first next) = Was copy.sender copy.stripped copy.altered
  ComesSo Was _ = Unit {0}

  -- as the path becomes this actor, with fewer than 2^64 - 1 segments sent from the side
  abbrev pub RecordsGoOn : Codec C → Actor C → Actor C → Type 0
  RecordsGoOn k (Path p) (Path q) = (s : Side) (r : Record) (by : ℕ) → segments_sent s p.link < 2 ^ 64 - 1 → IsOnItsWay k s r by p → GoesOnTo k s r by p q
  RecordsGoOn k (App a) (App b) = Unit {0}
  RecordsGoOn k _ _ = ⊥

  -- at the end of a turn the first record of each end that opens, is open or closes is on its way, to come within a minute and 400 ticks
  abbrev pub IsOnItsWayAtTheEnd : Codec C → PathState C → Type 0
  IsOnItsWayAtTheEnd k p = p.agenda ≡ [] → (s : Side) → is_closed_to_segments (end_at s p).tcp.state ≡ false
      → (r : Record) (others : List Record) → (end_at s p).tcp.send.records ≡ r ∷ others → IsOnItsWay k s r (p.clock + 60000 + 400) p

  -- on each path
  pub record RecordsAreOnTheirWay (k : Codec C) (w : WorldState C) : Type 0 where
    pub each : (actor : ℕ) (c : ActorCrew C) → slice_get w.crew actor ≡ Some c → HoldsOfKind (λ app. Unit {0}) (IsOnItsWayAtTheEnd k) c.member

  -- at each moment, and by any turn where no event was passed by
  pub record WhatWaitsComes (k : Codec C) : Type 0 where
    pub begins : Always k (λ start w. RecordsAreOnTheirWay k w)
    pub goes_on : (w : WorldState C) → NothingIsOverdue w → LinksAreNumbered w → (turn : Turn) (actor : ℕ) (c : ActorCrew C) → slice_get w.crew actor ≡ Some c
        → (d : ActorCrew C) × (slice_get (after_turn k turn w).crew actor ≡ Some d) × RecordsGoOn k c.member d.member
