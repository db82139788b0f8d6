-- A step over octets is the step over values, shown in octets.
use Rattle.std.proofs.Common.{◌≡◌, ◌∙◌, ap, ℕ, [], ◌∷◌, List}
use Rattle.path_core.specs.Octets.{octets}
use Rattle.world_laws.specs.Worlds.{WorldState, Turn, world_step, end_round}
use Rattle.world_laws.proofs.Worlds.Carrying.{run_same}
use Rattle.world_core.specs.AsValues.{StepsAsValues, EndsAsValues}

pub steps_as_values : (actor : ℕ) (before after : WorldState (List ℕ)) → after ≡ world_step octets actor before → StepsAsValues actor before after
steps_as_values actor before after is w shown fresh =
    is ∙ ap (world_step octets actor) shown ∙ run_same (Turn.Step actor ∷ []) w (fresh, tt)

pub ends_as_values : (before after : WorldState (List ℕ)) → after ≡ end_round before → EndsAsValues before after
ends_as_values before after is w shown = is ∙ ap end_round shown ∙ run_same (Turn.Round ∷ []) w (tt, tt)
