-- How many notes an actor has, and so how many rounds it has begun at most.
use Rattle.std.specs.Prelude.{◌≡◌, ◌^◌, ◌<◌, true, List, length, All}
use Rattle.stream_lanes.specs.Words.{Every}
use Rattle.world_laws.specs.Actors.{ActorCrew, is_over}
use Rattle.world_laws.specs.Timely.{CanBegin, IsTimelyMember}

module _ {C : Type 0} where
  -- the actor has fewer than 2^57 notes, and began no more rounds
  pub record IsTimelyCrew (c : ActorCrew C) : Type 0 where
    pub few : length c.list < 2 ^ 57
    pub timely : IsTimelyMember (length c.list) c.member

  abbrev pub AreTimely : List (ActorCrew C) → Type 0
  AreTimely crew = Every IsTimelyCrew crew

  -- the actor's turn ended, and it can begin a round
  pub record IsReady (c : ActorCrew C) : Type 0 where
    pub over : is_over c.member ≡ true
    pub can : CanBegin c.member

  abbrev pub AreReady : List (ActorCrew C) → Type 0
  AreReady crew = All IsReady crew
