-- Which mapping the MP_FAIL of an end names (RFC 8684, section 3.7).
use Rattle.std.specs.Prelude.{ℕ, ◌≡◌, ◌⊎◌, Some, List}
use Rattle.std.specs.List.{slice_get}
use Rattle.mptcp_options.specs.declared.capable.CapableKeys.TheVariants.{WithData}
use Rattle.path_core.specs.Octets.{octets}
use Rattle.path_core.specs.State.{PathState, end_at, path_of}
use Rattle.path_segments.specs.Options.{PlainOption}
use Rattle.path_segments.specs.Spelled.{PlainSegment}
use Rattle.path_segments.specs.declared.segment.PathMapping.TheVariants.{Bytes}
use Rattle.path_segments.specs.declared.segment.PathOption.TheVariants.{Capable, Dss}
use Rattle.run_trace.specs.Trace.{trace_of}
use Rattle.sides.specs.Side.{peer}
use Rattle.sides.specs.declared.side.Side.{Side}
use Rattle.stream_lanes.specs.Words.{Has}
use Rattle.world_laws.specs.Actors.{ActorCrew}
use Rattle.world_laws.specs.Openings.{Start, opened_world}
use Rattle.world_laws.specs.Promises.{HasRoom, NumbersFit}
use Rattle.world_laws.specs.Worlds.{Turn, world_run}
use Rattle.world_laws.specs.declared.member.Member.TheVariants.{Path}
use Rattle.own_runs.specs.Handshakes.{IsOn}

-- a mapping of octets begins at this place: that of a DSS (RFC 8684, section 3.3.1), or that of MP_CAPABLE with data, at place 0 (section 3.1)
abbrev pub Begins : ℕ → PlainOption → Type 0
Begins place (Dss next (Some (Bytes first position len fin checksum))) = first ≡ place
Begins place (Capable flag_a flag_c (WithData sender receiver len checksum)) = 0 ≡ place
Begins place _ = ⊥

abbrev pub BeginsAt : ℕ → PlainSegment → Type 0
BeginsAt place sg = Has (Begins place) sg.options

-- After these turns a mapping that an end names in its MP_FAILs, or is to name in its reset, was told by a segment of the other side on the path.
abbrev pub NamedMappingsWereTold : Type 0
NamedMappingsWereTold =
    (start : Start) (turns : List Turn) → HasRoom start → NumbersFit start
    → (actor : ℕ) (c : ActorCrew (List ℕ)) → slice_get (world_run octets turns (opened_world start)).crew actor ≡ Some c
    → (p : PathState (List ℕ)) → c.member ≡ Path p → (s : Side) (place : ℕ)
    → ((end_at s p).modes.failed_mapping ≡ Some place) ⊎ ((end_at s p).treated.failed_mapping ≡ Some place)
    → Has (IsOn (path_of p) (peer s) (BeginsAt place)) (trace_of turns (opened_world start))
