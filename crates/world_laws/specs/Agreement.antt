-- No mapping that an end of a path heard gives a position another place than the one that the end learned (RFC 8684, section
-- 3.3.1).
use Rattle.std.specs.Prelude.{ℕ, ◌≡◌, false, Some, slice_get}
use Rattle.sides.specs.declared.side.Side.{Side}
use Rattle.dss_mapping.specs.Learning.{clashes}
use Rattle.dss_mapping.specs.Mappings.{Mappings}
use Rattle.stream_lanes.specs.Words.{Every}
use Rattle.path_core.specs.State.{end_at}
use Rattle.world_laws.specs.declared.member.Member.TheVariants.{App, Path}
use Rattle.world_laws.specs.Actors.{Actor, ActorCrew}
use Rattle.world_laws.specs.Worlds.{WorldState}

-- no mapping that was heard and is still to be treated gives a position another place
abbrev pub NothingClashes : Mappings → Type 0
NothingClashes v = Every (λ heard. clashes heard v ≡ false) v.held

module _ {C : Type 0} where
  -- no mapping clashes at either end of a path
  abbrev pub EndsAgree : Actor C → Type 0
  EndsAgree (App a) = Unit {0}
  EndsAgree (Path p) = (s : Side) → NothingClashes (end_at s p).receiving.mappings

  -- no mapping that is still to be treated clashes, at both ends of every path
  pub record MappingsAgree (w : WorldState C) : Type 0 where
    pub each : (actor : ℕ) (c : ActorCrew C) → slice_get w.crew actor ≡ Some c → EndsAgree c.member
