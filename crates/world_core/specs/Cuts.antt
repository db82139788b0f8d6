-- What a connection shows that failed for want of memory amid steps in an order, a turn or a round.
use Rattle.std.specs.Prelude.{ℕ, ◌+◌, ◌<◌, ◌≡◌, List, take, replicate, length}
use Rattle.path_core.specs.Codec.{Codec}
use Rattle.world_laws.specs.Fine.{lists_of}
use Rattle.world_laws.specs.Outcomes.{outcome_of}
use Rattle.world_laws.specs.Worlds.{WorldState, RunTo}
use Rattle.world_core.specs.Rounds.{TurnsFrom}

module _ {C : Type 0} where
  -- the outcome of one world is that of the other, and so is each list of steps
  pub record ShowsAs (w v : WorldState C) : Type 0 where
    pub outcome : outcome_of v.crew ≡ outcome_of w.crew
    pub lists : lists_of v.crew ≡ lists_of w.crew

module _ {C : Type 0} (k : Codec C) where
  -- some first steps of the order were made, and what shows is what showed after these
  pub record RunCut (order : List ℕ) (w v : WorldState C) : Type 0 where
    pub count : ℕ
    pub reached : WorldState C
    pub made : RunTo k (take count order) count w reached
    pub shows : ShowsAs reached v

  -- some first steps of this actor
  abbrev pub TurnCut : ℕ → WorldState C → WorldState C → Type 0
  TurnCut actor w v = (steps : ℕ) × RunCut (replicate steps actor) w v

  -- of so many actors from this one on, some first ones made their whole turns, and the next one some first steps
  pub record TurnsCut (more actor : ℕ) (w v : WorldState C) : Type 0 where
    pub done : ℕ
    pub few : done < more
    pub reached : WorldState C
    pub turns : TurnsFrom k done actor w reached
    pub turn : TurnCut (actor + done) reached v

  -- of all actors
  abbrev pub RoundCut : WorldState C → WorldState C → Type 0
  RoundCut w v = TurnsCut (length w.crew) 0 w v
