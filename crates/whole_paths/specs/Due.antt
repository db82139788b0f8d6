-- What arrives as a copy is due is what the copy carries.
use Rattle.std.specs.Prelude.{ℕ, ◌-◌, ◌^◌, ◌≡◌, ◌<◌, Some, slice_get}
use Rattle.link_model.specs.declared.flight.Flight.{Flight}
use Rattle.link_model.specs.Steps.{arriving, due_of}
use Rattle.path_core.specs.State.{PathState}
use Rattle.world_laws.specs.Members.{HoldsOfKind}
use Rattle.world_laws.specs.Actors.{ActorCrew}
use Rattle.world_laws.specs.Worlds.{WorldState}
use Rattle.whole_paths.specs.Copies.{IsUnderWay}

module _ {C : Type 0} where
  -- what arrives at the copy's tick, at its side and with its number carries what the copy does
  pub record ArrivesAs (f : Flight C) (p : PathState C) : Type 0 where
    pub first : Flight C
    pub there : arriving (due_of f) p.link ≡ Some first
    pub same : first.carried ≡ f.carried

  -- each copy under way, of the first 2^64 - 2 segments of a side
  abbrev pub CopiesArriveSo : PathState C → Type 0
  CopiesArriveSo p = (f : Flight C) → IsUnderWay f p → f.number < 2 ^ 64 - 1 → ArrivesAs f p

  -- on each path
  pub record CopiesArriveAsSent (w : WorldState C) : Type 0 where
    pub each : (actor : ℕ) (c : ActorCrew C) → slice_get w.crew actor ≡ Some c → HoldsOfKind (λ app. Unit {0}) CopiesArriveSo c.member
