-- How an acknowledgement that an end owes comes to the peer, whatever is lost (RFC 9293, section 3.10.7.4).
use Rattle.std.specs.Prelude.{ℕ, ◌+◌, ◌-◌, ◌^◌, ◌≡◌, ◌<◌, ◌≤◌, Bool, true, false, Some, List, ◌∷◌, slice_get}
use Rattle.sides.specs.declared.side.Side.{Side}
use Rattle.sides.specs.Side.{peer}
use Rattle.path_segments.specs.Spelled.{PlainSegment}
use Rattle.link_model.specs.declared.flight.Flight.{Flight}
use Rattle.link_model.specs.Steps.{changed, due_of, segments_sent}
use Rattle.subflow_tcp.specs.States.{is_dead}
use Rattle.path_store.specs.declared.lines.LineAction.TheVariants as actions
use Rattle.path_store.specs.declared.lines.LineLeft.{LineLeft}
use Rattle.path_agenda.specs.declared.duty.Duty.{Duty}
use Rattle.path_agenda.specs.declared.duty.Duty.TheVariants as duties
use Rattle.path_agenda.specs.declared.duty.SendDuty.TheVariants as send_duties
use Rattle.path_agenda.specs.declared.duty.StepDuty.TheVariants as step_duties
use Rattle.path_core.specs.Codec.{Codec}
use Rattle.path_core.specs.Events.{next_event}
use Rattle.path_core.specs.Shown.{AltersNothing}
use Rattle.path_core.specs.State.{PathState, end_at}
use Rattle.path_core.specs.declared.events.Event.TheVariants as happenings
use Rattle.world_laws.specs.declared.member.Member.TheVariants.{App, Path}
use Rattle.world_laws.specs.Actors.{Actor, ActorCrew}
use Rattle.world_laws.specs.NeverFalls.{StripsNothing}
use Rattle.world_laws.specs.Worlds.{WorldState, Turn, after_turn}
use Rattle.whole_paths.specs.AsFar.{stage}
use Rattle.whole_paths.specs.Answered.{CopiesAreAnswered}
use Rattle.whole_paths.specs.Copies.{IsUnderWay, LinksAreNumbered}
use Rattle.whole_paths.specs.Finish.{is_harmed}

-- the segment acknowledges all before this position at least, and is no reset
pub record Covers (position : ℕ) (x : PlainSegment) : Type 0 where
  pub up_to : ℕ
  pub acknowledged : x.acknowledged ≡ Some up_to
  pub enough : position ≤ up_to
  pub rst : x.rst ≡ false

-- this side's end refuses a copy next, or answers it by a reset
pub data IsToRefuse (s : Side) (ds : List Duty) : Type 0 where
  refuses : (others : List Duty) → ds ≡ duties.Send (send_duties.Refuse s) ∷ others → IsToRefuse s ds
  answers : (others : List Duty) → ds ≡ duties.Send (send_duties.ResetAnswer s) ∷ others → IsToRefuse s ds

module _ {C : Type 0} where
  -- what the link makes of such a segment, on its way to the peer
  pub record IsAnswer (k : Codec C) (s : Side) (position : ℕ) (p : PathState C) (f : Flight C) : Type 0 where
    pub to : f.to ≡ peer s
    pub segment : PlainSegment
    pub covers : Covers position segment
    -- where no line of the path takes options away none were, and where none alters payload the copy's wasn't
    pub stripped : Bool
    pub altered : Bool
    pub whole : StripsNothing p.link.lines → stripped ≡ false
    pub plain : AltersNothing p.link.lines → altered ≡ false
    pub carried : f.carried ≡ changed (k.strips p.profile.spelling s) (k.alters p.profile.spelling s) stripped altered (k.makes p.profile.spelling s segment)

  -- Such a copy comes by this tick, unless it is harmed: within 400 ticks from now on, twice the longest delay, where the end owes an acknowledgement and
  -- all before the position came to it; or the copy is under way. Both SYNs came.
  pub data IsAnswered (k : Codec C) (s : Side) (position by : ℕ) (p : PathState C) : Type 0 where
    owes : p.clock + 400 ≤ by → 2 ≤ stage (end_at s p).tcp.state → position ≤ (end_at s p).tcp.recv.edge → (end_at s p).tcp.due.ack ≡ true
        → IsAnswered k s position by p
    flies : (f : Flight C) → f.tick ≤ by → IsUnderWay f p → IsAnswer k s position p f → IsAnswered k s position by p

  -- what becomes of it, as the path becomes another one
  pub data AnswerGoesOn (k : Codec C) (s : Side) (position by : ℕ) (p q : PathState C) : Type 0 where
    -- by the same tick
    on : IsAnswered k s position by q → AnswerGoesOn k s position by p q
    -- such a copy was what arrives next
    arrives : (f : Flight C) → f.tick ≤ by → IsUnderWay f p → IsAnswer k s position p f → (others : List Duty) → p.agenda ≡ duties.Step step_duties.Events ∷ others
        → next_event p ≡ Some (happenings.Arrives (due_of f)) → AnswerGoesOn k s position by p q
    -- such a segment is harmed
    harmed : is_harmed s p q ≡ true → AnswerGoesOn k s position by p q
    -- the end refuses a copy next, or answers one by a reset, as a dead end does, and one that listens
    resets : IsToRefuse s p.agenda → AnswerGoesOn k s position by p q
    -- the end is dead, or the line came next by which the path died
    gone : is_dead (end_at s q).tcp.state ≡ true → AnswerGoesOn k s position by p q
    dies : (line : LineLeft) → next_event p ≡ Some (happenings.Takes line) → line.action ≡ actions.Die → is_dead q.a.tcp.state ≡ true
        → AnswerGoesOn k s position by p q

  -- of an answer under way, that this holds of its segment
  abbrev pub IsAnsweredSo : {k : Codec C} {s : Side} {position by : ℕ} {p : PathState C} → (PlainSegment → Type 0) → IsAnswered k s position by p → Type 0
  IsAnsweredSo Was (flies f low there h) = Was h.segment
  IsAnsweredSo Was _ = Unit {0}

  -- and of the answer that arrives
  abbrev pub AnswerComesSo : {k : Codec C} {s : Side} {position by : ℕ} {p q : PathState C} → (PlainSegment → Type 0) → AnswerGoesOn k s position by p q → Type 0
  AnswerComesSo Was (on h) = IsAnsweredSo Was h
  AnswerComesSo Was (arrives f low there h others first next) = Was h.segment
  AnswerComesSo Was _ = Unit {0}

  -- as the path becomes this actor, with fewer than 2^64 - 1 segments sent from the side
  abbrev pub AnswersGoOn : Codec C → Actor C → Actor C → Type 0
  AnswersGoOn k (Path p) (Path q) = (s : Side) (position by : ℕ) → segments_sent s p.link < 2 ^ 64 - 1 → IsAnswered k s position by p
      → AnswerGoesOn k s position by p q
  AnswersGoOn k (App a) (App b) = Unit {0}
  AnswersGoOn k _ _ = ⊥

  -- by any turn, where no end owes an acknowledgement as a turn is over or an event is next
  abbrev pub WhatIsOwedComes : Codec C → Type 0
  WhatIsOwedComes k = (w : WorldState C) → CopiesAreAnswered w → LinksAreNumbered w → (turn : Turn) (actor : ℕ) (c : ActorCrew C) → slice_get w.crew actor ≡ Some c
      → (d : ActorCrew C) × (slice_get (after_turn k turn w).crew actor ≡ Some d) × AnswersGoOn k c.member d.member
