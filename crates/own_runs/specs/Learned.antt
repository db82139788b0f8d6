-- What an end of a path takes for the places of positions.
use Rattle.std.specs.Prelude.{ℕ, ◌≡◌, ◌+◌, ◌<◌, ◌≤◌, Some, List}
use Rattle.std.specs.List.{slice_get}
use Rattle.dss_mapping.specs.Mappings.{octets_in, place_at}
use Rattle.mptcp_options.specs.declared.capable.CapableKeys.TheVariants.{WithData}
use Rattle.path_core.specs.Octets.{octets}
use Rattle.path_core.specs.State.{PathState, end_at, path_of}
use Rattle.path_segments.specs.Options.{PlainOption}
use Rattle.path_segments.specs.Spelled.{PlainSegment}
use Rattle.path_segments.specs.declared.segment.PathMapping.TheVariants.{Bytes}
use Rattle.path_segments.specs.declared.segment.PathOption.TheVariants.{Capable, Dss}
use Rattle.run_trace.specs.Trace.{trace_of}
use Rattle.sides.specs.Side.{peer}
use Rattle.sides.specs.declared.side.Side.{Side}
use Rattle.stream_lanes.specs.Words.{Has}
use Rattle.world_laws.specs.Actors.{ActorCrew}
use Rattle.world_laws.specs.Openings.{Start, opened_world}
use Rattle.world_laws.specs.Promises.{HasRoom, NumbersFit}
use Rattle.world_laws.specs.Worlds.{Turn, world_run}
use Rattle.world_laws.specs.declared.member.Member.TheVariants.{Path}
use Rattle.own_runs.specs.Handshakes.{IsOn}

-- A mapping gives the position this place: that of a DSS (RFC 8684, section 3.3.1), or that of MP_CAPABLE with data, which has place 0 at
-- position 1 (section 3.1).
abbrev pub Maps : ℕ → ℕ → PlainOption → Type 0
Maps pos place (Dss next (Some (Bytes first position len fin checksum))) =
    (position ≤ pos) × (pos < position + octets_in len fin) × (place + position ≡ first + pos)
Maps pos place (Capable flag_a flag_c (WithData sender receiver len checksum)) = (1 ≤ pos) × (pos ≤ len) × (place + 1 ≡ pos)
Maps pos place _ = ⊥

abbrev pub MapsPlace : ℕ → ℕ → PlainSegment → Type 0
MapsPlace pos place sg = Has (Maps pos place) sg.options

-- After these turns each place that an end has for a position was told by a segment of the other side on the path, whatever the script does.
abbrev pub LearnedPlacesWereTold : Type 0
LearnedPlacesWereTold =
    (start : Start) (turns : List Turn) → HasRoom start → NumbersFit start
    → (actor : ℕ) (c : ActorCrew (List ℕ)) → slice_get (world_run octets turns (opened_world start)).crew actor ≡ Some c
    → (p : PathState (List ℕ)) → c.member ≡ Path p → (s : Side) (pos place : ℕ) → place_at (end_at s p).receiving.mappings pos ≡ Some place
    → Has (IsOn (path_of p) (peer s) (MapsPlace pos place)) (trace_of turns (opened_world start))
