-- How a copy leaves the link of a path.
use Rattle.std.specs.Prelude.{ℕ, ◌≡◌, ◌≤◌, true, Some, List, ◌∷◌, slice_get}
use Rattle.link_model.specs.declared.flight.Flight.{Flight}
use Rattle.link_model.specs.Steps.{due_of, segments_sent}
use Rattle.sides.specs.Side.{peer}
use Rattle.stream_lanes.specs.Words.{Has}
use Rattle.subflow_tcp.specs.States.{is_dead}
use Rattle.path_store.specs.declared.lines.LineLeft.{LineLeft}
use Rattle.path_store.specs.declared.lines.LineAction.TheVariants as actions
use Rattle.path_agenda.specs.declared.duty.Duty.{Duty}
use Rattle.path_agenda.specs.declared.duty.Duty.TheVariants as duties
use Rattle.path_agenda.specs.declared.duty.StepDuty.TheVariants as step_duties
use Rattle.path_core.specs.Codec.{Codec}
use Rattle.path_core.specs.Events.{next_event}
use Rattle.path_core.specs.State.{PathState}
use Rattle.path_core.specs.declared.events.Event.TheVariants as happenings
use Rattle.world_laws.specs.declared.member.Member.TheVariants.{App, Path}
use Rattle.world_laws.specs.Actors.{Actor, ActorCrew}
use Rattle.world_laws.specs.Members.{HoldsOfKind}
use Rattle.world_laws.specs.Worlds.{WorldState, Turn, after_turn}

module _ {C : Type 0} where
  -- the copy is under way on the path
  abbrev pub IsUnderWay : Flight C → PathState C → Type 0
  IsUnderWay f p = Has (λ g. g ≡ f) p.link.under_way

  -- no copy under way has a number past that of the last segment that the link took from its side
  abbrev pub CopiesAreNumbered : PathState C → Type 0
  CopiesAreNumbered p = (f : Flight C) → IsUnderWay f p → f.number ≤ segments_sent (peer f.to) p.link

  -- on each path
  pub record LinksAreNumbered (w : WorldState C) : Type 0 where
    pub each : (actor : ℕ) (c : ActorCrew C) → slice_get w.crew actor ≡ Some c → HoldsOfKind (λ app. Unit {0}) CopiesAreNumbered c.member

  -- what becomes of it, as the path becomes another one
  pub data GoesOnItsWay (f : Flight C) (p q : PathState C) : Type 0 where
    -- the copy is still under way
    on : IsUnderWay f q → GoesOnItsWay f p q
    -- the copy arrives, which was the next event of the path
    arrives : (others : List Duty) → p.agenda ≡ duties.Step step_duties.Events ∷ others → next_event p ≡ Some (happenings.Arrives (due_of f)) → GoesOnItsWay f p q
    -- the next event was a line of the script by which the path died, with both its ends
    dies : (line : LineLeft) → next_event p ≡ Some (happenings.Takes line) → line.action ≡ actions.Die → is_dead q.a.tcp.state ≡ true → GoesOnItsWay f p q

  -- with each copy of a path, as the path becomes this actor
  abbrev pub CopiesGoOn : Actor C → Actor C → Type 0
  CopiesGoOn (Path p) (Path q) = (f : Flight C) → IsUnderWay f p → GoesOnItsWay f p q
  CopiesGoOn (App a) (App b) = Unit {0}
  CopiesGoOn _ _ = ⊥

  -- by any turn
  abbrev pub CopiesLeaveByArriving : Codec C → Type 0
  CopiesLeaveByArriving k = (w : WorldState C) (turn : Turn) (actor : ℕ) (c : ActorCrew C) → slice_get w.crew actor ≡ Some c
      → (d : ActorCrew C) × (slice_get (after_turn k turn w).crew actor ≡ Some d) × CopiesGoOn c.member d.member
