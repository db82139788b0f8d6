-- Where a side stands when its connection opens.
use Rattle.std.specs.Prelude.{false, None}
use Rattle.fallback_state.specs.declared.fall.Fall.{Fall}
use Rattle.fallback_state.specs.declared.fall.Mode.TheVariants.{Starting}

abbrev pub opening : Fall
opening = record { mode = Starting; confirmed = false; joined = false; failed = None }
