-- A path that was whole is whole still, or one of its ends is dead.
use Rattle.std.specs.Prelude.{ℕ, ◌⊎◌, List}
use Rattle.path_core.specs.Codec.{Codec}
use Rattle.world_laws.specs.Worlds.{WorldState, Turn, world_run}
use Rattle.whole_paths.specs.Finish.{AnEndDied, IsWhole}

-- by whatever turns
abbrev pub WholePathsStayWhole : {C : Type 0} → Codec C → Type 0
WholePathsStayWhole {C} k = (w : WorldState C) (number : ℕ) (more : List Turn) → IsWhole number w → IsWhole number (world_run k more w)
    ⊎ AnEndDied number (world_run k more w)
