-- Each event of a path happens at its tick, and not later.
use Rattle.std.specs.Prelude.{ℕ, ◌≡◌, ◌≤◌, true, Some, IfSome, List, [], slice_get}
use Rattle.std.specs.List.{AllByRecursion}
use Rattle.link_model.specs.declared.flight.Flight.{Flight}
use Rattle.subflow_tcp.specs.States.{is_waiting}
use Rattle.path_store.specs.declared.lines.LineLeft.{LineLeft}
use Rattle.path_core.specs.Codec.{Codec}
use Rattle.path_core.specs.Events.{next_event, tick_of}
use Rattle.path_core.specs.State.{PathState}
use Rattle.path_core.specs.declared.events.Event.{Event}
use Rattle.world_laws.specs.Members.{HoldsOfKind}
use Rattle.world_laws.specs.Actors.{ActorCrew}
use Rattle.world_laws.specs.Openings.{Start}
use Rattle.world_laws.specs.RoundDone.{reached}
use Rattle.world_laws.specs.Worlds.{WorldState, Turn}

module _ {C : Type 0} where
  -- All that waits to happen on the path does so at this tick or later: A's join, as long as its end waits for it; each line that isn't
  -- taken yet; each copy that is under way; each timer that runs.
  pub record ComesFrom (now : ℕ) (p : PathState C) : Type 0 where
    pub join : is_waiting p.a.tcp.state ≡ true → IfSome p.joined_at (λ tick. now ≤ tick)
    pub lines : AllByRecursion (λ (line : LineLeft). now ≤ line.tick) p.lines
    pub copies : AllByRecursion (λ (f : Flight C). now ≤ f.tick) p.link.under_way
    pub timer_a : IfSome p.a.tcp.timing.timer (λ tick. now ≤ tick)
    pub timer_b : IfSome p.b.tcp.timing.timer (λ tick. now ≤ tick)

  -- on each path none of it lies before the clock, and where its turn is over none before the end of its round
  pub record NothingIsOverdue (w : WorldState C) : Type 0 where
    pub each : (actor : ℕ) (c : ActorCrew C) → slice_get w.crew actor ≡ Some c → HoldsOfKind (λ app. Unit {0}) (λ (p : PathState C). ComesFrom p.clock p) c.member
    pub over : (actor : ℕ) (c : ActorCrew C) → slice_get w.crew actor ≡ Some c
        → HoldsOfKind (λ app. Unit {0}) (λ (p : PathState C). p.agenda ≡ [] → ComesFrom p.until p) c.member

-- on each path, at every moment: all that waits to happen does so at the tick of what comes next, or later
abbrev pub EventsComeInOrder : {C : Type 0} → Codec C → Type 0
EventsComeInOrder {C} k = (start : Start) (turns : List Turn) (actor : ℕ) (c : ActorCrew C) → slice_get (reached k start turns).crew actor ≡ Some c
    → HoldsOfKind (λ app. Unit {0}) (λ (p : PathState C). (event : Event) → next_event p ≡ Some event → ComesFrom (tick_of event) p) c.member
