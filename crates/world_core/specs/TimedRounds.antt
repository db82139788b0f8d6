-- Rounds by tick: each step is the one that stands earliest, so that what a path does at a tick rests on steps at that
-- tick or before alone.
use Rattle.std.specs.Prelude.{ℕ, zero, suc, ◌≡◌, ◌≤◌, true, false, if◌then◌else◌, Option, Some, None, option_and_then, List, [], ◌∷◌, ◌++◌, slice_get}
use Rattle.std.specs.Option.{option_to_list}
use Rattle.actor_desk.specs.declared.ask.Reply.{Reply}
use Rattle.path_core.specs.Codec.{Codec}
use Rattle.path_core.specs.Looking.{next_tick}
use Rattle.path_core.specs.State.{PathState, has_ended}
use Rattle.path_core.specs.Steps.{takes}
use Rattle.world_laws.specs.Actors.{Actor, ActorCrew, is_over}
use Rattle.world_laws.specs.declared.member.Member.TheVariants.{App, Path}
use Rattle.world_laws.specs.Outcomes.{outcome_of}
use Rattle.world_laws.specs.Serial.{goes_on, OneOf}
use Rattle.world_laws.specs.Weaving.{steps_by}
use Rattle.world_laws.specs.Worlds.{WorldState, Turn, world_step, end_round, all_over, world_run}
use Rattle.world_core.specs.Cuts.{ShowsAs}

module _ {C : Type 0} where
  -- ---- which step is next

  -- the tick at which an actor's next step stands: an application has none, and comes before all paths
  abbrev pub member_tick : Actor C → ℕ
  member_tick (App a) = 0
  member_tick (Path p) = next_tick p

  -- as long as its turn goes on
  abbrev pub step_tick : Actor C → Option ℕ
  step_tick m = if is_over m then None else Some (member_tick m)

  -- of the actor of this number
  abbrev pub tick_at : ℕ → List (ActorCrew C) → Option ℕ
  tick_at actor crew = option_and_then (λ c. step_tick c.member) (slice_get crew actor)

  -- The actor's turn goes on, no other actor's step stands earlier, and of those at one tick it has the least number.
  pub record IsNext (actor : ℕ) (crew : List (ActorCrew C)) : Type 0 where
    pub tick : ℕ
    pub stands : tick_at actor crew ≡ Some tick
    pub least : (other later : ℕ) → tick_at other crew ≡ Some later → tick ≤ later
    pub first : (other : ℕ) → tick_at other crew ≡ Some tick → actor ≤ other

-- the turns of rounds with these steps
abbrev pub turns_by : List (List ℕ) → List Turn
turns_by [] = []
turns_by (order ∷ rounds) = steps_by order ++ Turn.Round ∷ turns_by rounds

module _ {C : Type 0} (k : Codec C) where
  -- ---- a round

  -- each of these steps was the next
  abbrev pub AreInTime : List ℕ → WorldState C → Type 0
  AreInTime [] w = Unit {0}
  AreInTime (actor ∷ order) w = IsNext actor w.crew × AreInTime order (world_step k actor w)

  -- each of these steps was the next, and each turn is over behind them
  pub record AreTimedTurns (order : List ℕ) (w : WorldState C) : Type 0 where
    pub steps : AreInTime order w
    pub over : all_over (world_run k (steps_by order) w).crew ≡ true

  -- the turns of a timed round lead from one world to the other
  pub record TimedTurnsTo (w v : WorldState C) : Type 0 where
    pub order : List ℕ
    pub turns : AreTimedTurns order w
    pub world : v ≡ world_run k (steps_by order) w

  -- the world after the turns of a timed round, and the round's end
  abbrev pub after_timed : List ℕ → WorldState C → WorldState C
  after_timed order w = end_round (world_run k (steps_by order) w)

  -- a timed round leads from one world to the other
  pub record TimedRoundTo (w v : WorldState C) : Type 0 where
    pub order : List ℕ
    pub turns : AreTimedTurns order w
    pub world : v ≡ after_timed order w

  -- some first steps of a round were made, and what shows is what showed after these
  pub record TimedCut (w v : WorldState C) : Type 0 where
    pub order : List ℕ
    pub steps : AreInTime order w
    pub shows : ShowsAs (world_run k (steps_by order) w) v

  -- ---- rounds

  -- at most so many rounds, each of which has these steps; the last one is that whose outcome isn't Going
  abbrev pub AreTimedRounds : ℕ → List (List ℕ) → WorldState C → Type 0
  AreTimedRounds zero rounds w = rounds ≡ []
  AreTimedRounds (suc most) [] w = ⊥
  AreTimedRounds (suc most) (order ∷ rounds) w =
      AreTimedTurns order w
      × OneOf (goes_on (outcome_of (after_timed order w).crew)) (AreTimedRounds most rounds (after_timed order w)) (rounds ≡ [])

  -- the turns of at most so many timed rounds
  abbrev pub IsTimed : ℕ → List Turn → WorldState C → Type 0
  IsTimed most turns w = (rounds : List (List ℕ)) × AreTimedRounds most rounds w × (turns ≡ turns_by rounds)

  -- ---- laws

  -- the ticks at which these steps stand, in their order
  abbrev pub ticks_of : List ℕ → WorldState C → List ℕ
  ticks_of [] w = []
  ticks_of (actor ∷ order) w = option_to_list (tick_at actor w.crew) ++ ticks_of order (world_step k actor w)

-- none is below this one, or below one before it
abbrev pub RiseFrom : ℕ → List ℕ → Type 0
RiseFrom tick [] = Unit {0}
RiseFrom tick (next ∷ ticks) = (tick ≤ next) × RiseFrom next ticks

-- From one step of a round by tick to the next no clock goes back.
abbrev pub NoClockGoesBack : {C : Type 0} → Codec C → Type 0
NoClockGoesBack {C} k = (order : List ℕ) (w : WorldState C) → AreInTime k order w → RiseFrom 0 (ticks_of k order w)

-- The tick at which the next step of a path stands is the path's own behind that step, whatever it is answered.
abbrev pub StepsStandAtTheirTick : {C : Type 0} → Codec C → Type 0
StepsStandAtTheirTick {C} k = (p : PathState C) (r : Reply) → has_ended p ≡ false → (takes k r p).clock ≡ next_tick p
