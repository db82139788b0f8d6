-- A world as its values have it: its state, and whether it failed for want of memory.
use Rattle.std.specs.Prelude.{ℕ, ◌≡◌, ◌<◌, ◌^◌, Bool, true, false, List, [], length}
use Rattle.stream_lanes.specs.Words.{Every}
use Rattle.path_core.specs.Octets.{octets}
use Rattle.world_laws.specs.Fine.{IsFine}
use Rattle.world_laws.specs.Weaving.{steps_by}
use Rattle.world_laws.specs.Worlds.{WorldState, all_over, greatest, end_round, world_run}
use Rattle.actor_desk.specs.Books.{StampedBooks}
use Rattle.world_laws.specs.Actors.{ActorCrew}
use Rattle.world_core.specs.declared.hearing.Hearing.{Hearing}
use Rattle.world_core.specs.Hearing.{heard_by}
use Rattle.world_core.specs.Timely.{AreTimely}

pub record Kept : Type 0 where
  pub failed : Bool
  pub state : WorldState (List ℕ)

abbrev pub world : List (ActorCrew (List ℕ)) → StampedBooks → WorldState (List ℕ)
world crew books = record { crew = crew; books = books }

-- a world that hasn't failed
abbrev pub standing : WorldState (List ℕ) → Kept
standing w = record { failed = false; state = w }

-- A world in which a round begins, where this is the greatest stamp at the end of the round before it: the first one, in which no actor
-- has made a step, and that stamp is 0; or what the end of that round made of a world in which each turn was over.
pub data BeginsAbove (top : ℕ) (begun : WorldState (List ℕ)) : Type 0 where
  First : top ≡ 0 → Every (λ c. c.list ≡ []) begun.crew → BeginsAbove top begun
  Next : (ended : WorldState (List ℕ)) → all_over ended.crew ≡ true → top ≡ greatest 0 ended.crew → begun ≡ end_round ended → BeginsAbove top begun

-- the round that goes on began in such a world, and steps of actors led from there to this one
pub record IsInRoundAbove (top : ℕ) (w : WorldState (List ℕ)) : Type 0 where
  pub begun : WorldState (List ℕ)
  pub begins : BeginsAbove top begun
  pub order : List ℕ
  pub steps : world_run octets (steps_by order) begun ≡ w

-- What holds of each world that hasn't failed: its lists and journals are paired at every stamp, stamps rise in each, and they
-- are chained above the greatest stamp at the last round's end, exactly; and each actor has begun no more rounds than it has notes,
-- which are fewer than 2^57.
pub record IsSound (w : WorldState (List ℕ)) : Type 0 where
  pub top : ℕ
  pub fine : IsFine top w
  pub timely : AreTimely w.crew
  -- the stamp is that one
  pub round : IsInRoundAbove top w

-- each actor has fewer than 2^57 notes
abbrev pub HasFewNotes : WorldState (List ℕ) → Type 0
HasFewNotes w = Every (λ c. length c.list < 2 ^ 57) w.crew

-- a world with what its readers were told
pub record IsKept (failed : Bool) (w : WorldState (List ℕ)) (h : Hearing) : Type 0 where
  pub sound : failed ≡ false → IsSound w
  pub hearing : h ≡ heard_by w.crew
  pub few : length w.crew < 32
