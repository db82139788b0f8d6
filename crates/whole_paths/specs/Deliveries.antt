-- When both files are delivered: once both readers were told the end.
use Rattle.std.specs.Prelude.{◌≡◌, true, List}
use Rattle.sides.specs.declared.side.Side.{Side}
use Rattle.path_core.specs.Values.{Carried, values}
use Rattle.world_laws.specs.declared.outcome.Outcome.TheVariants.{Delivered}
use Rattle.world_laws.specs.Openings.{Start}
use Rattle.world_laws.specs.Outcomes.{outcome_of}
use Rattle.world_laws.specs.Promises.{was_told_end}
use Rattle.world_laws.specs.RoundDone.{reached}
use Rattle.world_laws.specs.Worlds.{WorldState, Turn}
use Rattle.whole_paths.specs.Mild.{IsMildStart}

-- both readers were told the end
abbrev pub BothAreTold : WorldState Carried → Type 0
BothAreTold w = (s : Side) → was_told_end s w ≡ true

-- then both files are delivered
abbrev pub WhoIsToldHasAll : Type 0
WhoIsToldHasAll = (start : Start) (turns : List Turn) → IsMildStart start → BothAreTold (reached values start turns)
    → outcome_of (reached values start turns).crew ≡ Delivered
