-- An infinite mapping that is told is right: from its position on each octet of the path has the place that it gives (RFC 8684,
-- section 3.7).
use Rattle.std.specs.Prelude.{ℕ, ◌≡◌, ◌+◌, ◌-◌, ◌<◌, ◌≤◌, Option, Some, slice_get}
use Rattle.sides.specs.declared.side.Side.{Side}
use Rattle.sides.specs.Side.{peer}
use Rattle.link_model.specs.declared.flight.Due.{Due}
use Rattle.link_model.specs.declared.flight.Flight.{Flight}
use Rattle.link_model.specs.Steps.{arriving}
use Rattle.path_segments.specs.declared.segment.PathMapping.{PathMapping}
use Rattle.path_segments.specs.declared.segment.PathMapping.TheVariants.{Infinite}
use Rattle.path_segments.specs.declared.segment.PathOption.TheVariants.{Dss}
use Rattle.path_segments.specs.Options.{PlainOption}
use Rattle.path_segments.specs.Heard.{HeardSegment}
use Rattle.subflow_send.specs.declared.record.RecordKind.{RecordKind}
use Rattle.subflow_send.specs.declared.record.RecordKind.TheVariants.{Syn, Data, Fin}
use Rattle.subflow_send.specs.Records.{Record}
use Rattle.stream_lanes.specs.Words.{Every}
use Rattle.path_core.specs.declared.events.Event.TheVariants.{Arrives}
use Rattle.path_core.specs.DssIn.{HeardOption}
use Rattle.path_core.specs.Codec.{Codec}
use Rattle.path_core.specs.End.{PathEnd}
use Rattle.path_core.specs.Arrival.{heard_in}
use Rattle.path_core.specs.Events.{next_event}
use Rattle.path_core.specs.DssOut.{place_numbered}
use Rattle.path_core.specs.State.{PathState, end_at}
use Rattle.path_core.specs.Profile.{Profile}
use Rattle.path_core.specs.Values.{Carried}
use Rattle.world_laws.specs.declared.member.Member.TheVariants.{App, Path}
use Rattle.world_laws.specs.Actors.{Actor, ActorCrew}
use Rattle.world_laws.specs.Worlds.{WorldState}

-- each octet of a record of data that stands at this position or behind it has the place that rises with the position, also where
-- the record begins before it
abbrev pub IsUnder : ℕ → ℕ → RecordKind → Profile → Side → Record → Type 0
IsUnder place position Data c s r =
    (i : ℕ) → i < r.mapping.length → position ≤ r.pos + i → place_numbered c s r.mapping.number + i ≡ place + (r.pos + i - position)
IsUnder place position Syn c s r = Unit {0}
IsUnder place position Fin c s r = Unit {0}

-- an infinite mapping gives each octet of data that the end may still send, from its position on, the octet's own place
abbrev pub MappingIsRight : Profile → Side → PathEnd → Option (PathMapping ℕ) → Type 0
MappingIsRight c s e (Some (Infinite place position)) = Every (λ r. IsUnder place position r.kind c s r) e.tcp.send.records
MappingIsRight c s e _ = Unit {0}

-- no option but a DSS tells an infinite mapping
abbrev pub OptionIsRight : Profile → Side → PathEnd → PlainOption → Type 0
OptionIsRight c s e (Dss next mapping) = MappingIsRight c s e mapping
OptionIsRight c s e _ = Unit {0}

-- the infinite mappings of a copy under way are right, for the end that sent it
abbrev pub FlightIsRight : PathState Carried → Flight Carried → Type 0
FlightIsRight p f = Every (OptionIsRight p.profile (peer f.to) (end_at (peer f.to) p)) f.carried.segment.options

-- each copy that is under way on a path
abbrev pub PathIsRight : Actor Carried → Type 0
PathIsRight (App a) = Unit {0}
PathIsRight (Path p) = Every (FlightIsRight p) p.link.under_way

-- the infinite mappings on every path are right
pub record InfiniteMappingsAreRight (w : WorldState Carried) : Type 0 where
  pub each : (actor : ℕ) (c : ActorCrew Carried) → slice_get w.crew actor ≡ Some c → PathIsRight c.member

-- ---- as they are heard

-- one whose numbers mean a place and a position
abbrev pub HeardMappingIsRight : Profile → Side → PathEnd → Option (PathMapping (Option ℕ)) → Type 0
HeardMappingIsRight c s e (Some (Infinite (Some place) (Some position))) = Every (λ r. IsUnder place position r.kind c s r) e.tcp.send.records
HeardMappingIsRight c s e _ = Unit {0}

abbrev pub HeardOptionIsRight : Profile → Side → PathEnd → HeardOption → Type 0
HeardOptionIsRight c s e (Dss next mapping) = HeardMappingIsRight c s e mapping
HeardOptionIsRight c s e _ = Unit {0}

module _ {C : Type 0} (k : Codec C) where
  -- the copy that arrives next, as its end reads it, for the end that sent it
  abbrev pub NextIsRight : PathState C → Type 0
  NextIsRight p = (due : Due) (h : HeardSegment) → next_event p ≡ Some (Arrives due) → heard_in k due.to (arriving due p.link) p ≡ Some h
      → Every (HeardOptionIsRight p.profile (peer due.to) (end_at (peer due.to) p)) h.options

  abbrev pub ActorHearsRight : Actor C → Type 0
  ActorHearsRight (App a) = Unit {0}
  ActorHearsRight (Path p) = NextIsRight p

  -- the infinite mappings that arrive next on every path are heard right
  pub record InfiniteMappingsAreHeardRight (w : WorldState C) : Type 0 where
    pub each : (actor : ℕ) (c : ActorCrew C) → slice_get w.crew actor ≡ Some c → ActorHearsRight c.member
