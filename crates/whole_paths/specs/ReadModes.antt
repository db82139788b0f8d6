-- In a mild connection each end goes on reading mappings (RFC 8684, section 3.7).
use Rattle.std.specs.Prelude.{ℕ, ◌≡◌, true, Some, List, slice_get}
use Rattle.sides.specs.declared.side.Side.{Side}
use Rattle.fallback_state.specs.Modes.{reads_mappings}
use Rattle.path_core.specs.State.{PathState, end_at}
use Rattle.path_core.specs.Values.{Carried, values}
use Rattle.world_laws.specs.Actors.{ActorCrew}
use Rattle.world_laws.specs.Members.{HoldsOfKind}
use Rattle.world_laws.specs.Openings.{Start}
use Rattle.world_laws.specs.RoundDone.{reached}
use Rattle.world_laws.specs.Worlds.{Turn}
use Rattle.whole_paths.specs.Mild.{IsMildStart}

-- by the mode that it knows
abbrev pub ReadsMappings : PathState Carried → Type 0
ReadsMappings p = (s : Side) → reads_mappings (end_at s p).modes.mode ≡ true

-- on each path, at every moment
abbrev pub EndsReadMappings : Type 0
EndsReadMappings = (start : Start) (turns : List Turn) → IsMildStart start → (actor : ℕ) (c : ActorCrew Carried)
    → slice_get (reached values start turns).crew actor ≡ Some c
    → HoldsOfKind (λ app. Unit {0}) ReadsMappings c.member
