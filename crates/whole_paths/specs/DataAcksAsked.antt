-- How an end that has no record left asks its peer again: for the Data ACK of bytes or of a DATA_FIN, for a window, or for the answer to its
-- third MP_JOIN or MP_FASTCLOSE (RFC 6298, section 5; RFC 8684, sections 3.2, 3.3 and 3.5).
use Rattle.std.specs.Prelude.{ℕ, ◌+◌, ◌-◌, ◌^◌, ◌≡◌, ◌<◌, ◌≤◌, Bool, true, false, Some, List, [], ◌∷◌, slice_get}
use Rattle.sides.specs.declared.side.Side.{Side}
use Rattle.sides.specs.Side.{peer}
use Rattle.link_model.specs.declared.flight.Flight.{Flight}
use Rattle.link_model.specs.Steps.{changed, due_of, segments_sent}
use Rattle.subflow_send.specs.Records.{Record}
use Rattle.subflow_tcp.specs.States.{is_closed_to_segments, is_dead}
use Rattle.path_store.specs.declared.lines.LineAction.TheVariants as actions
use Rattle.path_store.specs.declared.lines.LineLeft.{LineLeft}
use Rattle.path_agenda.specs.declared.duty.Duty.{Duty}
use Rattle.path_agenda.specs.declared.duty.Duty.TheVariants as duties
use Rattle.path_agenda.specs.declared.duty.StepDuty.TheVariants as step_duties
use Rattle.path_core.specs.Codec.{Codec}
use Rattle.path_core.specs.Emission.{ack_resent}
use Rattle.path_core.specs.End.{PathEnd}
use Rattle.path_core.specs.Events.{next_event}
use Rattle.path_core.specs.Shown.{AltersNothing}
use Rattle.path_core.specs.State.{PathState, end_at}
use Rattle.path_core.specs.declared.events.Event.TheVariants as happenings
use Rattle.world_laws.specs.declared.member.Member.TheVariants.{App, Path}
use Rattle.world_laws.specs.Actors.{Actor, ActorCrew}
use Rattle.world_laws.specs.Laws.{Always}
use Rattle.world_laws.specs.Members.{HoldsOfKind}
use Rattle.world_laws.specs.NeverFalls.{StripsNothing}
use Rattle.world_laws.specs.Worlds.{WorldState, Turn, after_turn}
use Rattle.whole_paths.specs.Copies.{IsUnderWay, LinksAreNumbered}
use Rattle.whole_paths.specs.Expiries.{IsToSendAgain}
use Rattle.whole_paths.specs.Flights.{IsFirst, IsOnItsWay, IsSentSo}
use Rattle.whole_paths.specs.Finish.{is_harmed}
use Rattle.whole_paths.specs.InTime.{NothingIsOverdue}
use Rattle.whole_paths.specs.Reasons.{IsOutstanding}
use Rattle.whole_paths.specs.Running.{IsRunning}
use Rattle.whole_paths.specs.Waits.{IsNews}

module _ {C : Type 0} where
  -- what the link makes of the acknowledgement by which the end asks, as the end was that sent it, on its way to the peer
  pub record IsAsking (k : Codec C) (s : Side) (p : PathState C) (f : Flight C) : Type 0 where
    pub to : f.to ≡ peer s
    pub sender : PathEnd
    -- where no line of the path takes options away none were, and where none alters payload the copy's wasn't
    pub stripped : Bool
    pub altered : Bool
    pub whole : StripsNothing p.link.lines → stripped ≡ false
    pub plain : AltersNothing p.link.lines → altered ≡ false
    pub carried : f.carried ≡ changed (k.strips p.profile.spelling s) (k.alters p.profile.spelling s) stripped altered (k.makes p.profile.spelling s (ack_resent p.profile s sender))

  -- Such a copy comes by this tick, unless it is harmed: 400 ticks, twice the longest delay, after the timer runs out, or from now on, where the end is
  -- to send again; or the copy is under way. The end has no record left.
  pub data IsAskedAgain (k : Codec C) (s : Side) (by : ℕ) (p : PathState C) : Type 0 where
    waits : (tick : ℕ) → tick + 400 ≤ by → IsRunning tick (end_at s p) → (end_at s p).tcp.send.records ≡ [] → IsAskedAgain k s by p
    resends : p.clock + 400 ≤ by → IsToSendAgain s p → (end_at s p).tcp.send.records ≡ [] → IsAskedAgain k s by p
    flies : (f : Flight C) → f.tick ≤ by → IsUnderWay f p → IsAsking k s p f → IsAskedAgain k s by p

  -- what becomes of it, as the path becomes another one
  pub data AskingGoesOn (k : Codec C) (s : Side) (by : ℕ) (p q : PathState C) : Type 0 where
    -- by the same tick
    on : IsAskedAgain k s by q → AskingGoesOn k s by p q
    -- such a copy was what arrives next
    arrives : (f : Flight C) → f.tick ≤ by → IsUnderWay f p → IsAsking k s p f → (others : List Duty) → p.agenda ≡ duties.Step step_duties.Events ∷ others
        → next_event p ≡ Some (happenings.Arrives (due_of f)) → AskingGoesOn k s by p q
    -- the end, which had none, has a record again, which didn't go yet, and comes by the same tick (`WhatWaitsComes`)
    record_waits : (r : Record) → (end_at s p).tcp.send.records ≡ [] → IsFirst r (end_at s q) → (way : IsOnItsWay k s r by q)
        → IsSentSo (λ sender stripped altered. ⊥) way → AskingGoesOn k s by p q
    -- there is news, or nothing of the end is outstanding any longer
    news : IsNews (end_at s p) (end_at s q) → AskingGoesOn k s by p q
    done : (IsOutstanding (end_at s q) → ⊥) → AskingGoesOn k s by p q
    -- the segment is harmed
    harmed : is_harmed s p q ≡ true → AskingGoesOn k s by p q
    -- the end is dead, or the line came next by which the path died
    gone : is_dead (end_at s q).tcp.state ≡ true → AskingGoesOn k s by p q
    dies : (line : LineLeft) → next_event p ≡ Some (happenings.Takes line) → line.action ≡ actions.Die → is_dead q.a.tcp.state ≡ true → AskingGoesOn k s by p q

  -- of a copy under way, that this holds of its sender as it sent it, and of whether the link stripped and altered it
  abbrev pub IsAskedSo : {k : Codec C} {s : Side} {by : ℕ} {p : PathState C} → (PathEnd → Bool → Bool → Type 0) → IsAskedAgain k s by p → Type 0
  IsAskedSo Was (flies f low there h) = Was h.sender h.stripped h.altered
  IsAskedSo Was _ = Unit {0}

  -- and of the copy that arrives
  abbrev pub AskComesSo : {k : Codec C} {s : Side} {by : ℕ} {p q : PathState C} → (PathEnd → Bool → Bool → Type 0) → AskingGoesOn k s by p q → Type 0
  AskComesSo Was (on h) = IsAskedSo Was h
  AskComesSo Was (arrives f low there h others first next) = Was h.sender h.stripped h.altered
  AskComesSo Was _ = Unit {0}

  -- as the path becomes this actor, with fewer than 2^64 - 1 segments sent from the side
  abbrev pub AsksGoOn : Codec C → Actor C → Actor C → Type 0
  AsksGoOn k (Path p) (Path q) = (s : Side) (by : ℕ) → segments_sent s p.link < 2 ^ 64 - 1 → IsAskedAgain k s by p → AskingGoesOn k s by p q
  AsksGoOn k (App a) (App b) = Unit {0}
  AsksGoOn k _ _ = ⊥

  -- at the end of a turn each end that opens, is open or closes asks again, where something of it is outstanding, but no record, within a
  -- minute and 400 ticks
  abbrev pub IsAskedAtTheEnd : Codec C → PathState C → Type 0
  IsAskedAtTheEnd k p = p.agenda ≡ [] → (s : Side) → is_closed_to_segments (end_at s p).tcp.state ≡ false → (end_at s p).tcp.send.records ≡ []
      → IsOutstanding (end_at s p)
      → IsAskedAgain k s (p.clock + 60000 + 400) p

  -- on each path
  pub record EachEndAsksAgain (k : Codec C) (w : WorldState C) : Type 0 where
    pub each : (actor : ℕ) (c : ActorCrew C) → slice_get w.crew actor ≡ Some c → HoldsOfKind (λ app. Unit {0}) (IsAskedAtTheEnd k) c.member

  -- at each moment, and by any turn where no event was passed by
  pub record WhatIsAskedComes (k : Codec C) : Type 0 where
    pub begins : Always k (λ start w. EachEndAsksAgain k w)
    pub goes_on : (w : WorldState C) → NothingIsOverdue w → LinksAreNumbered w → (turn : Turn) (actor : ℕ) (c : ActorCrew C) → slice_get w.crew actor ≡ Some c
        → (d : ActorCrew C) × (slice_get (after_turn k turn w).crew actor ≡ Some d) × AsksGoOn k c.member d.member
