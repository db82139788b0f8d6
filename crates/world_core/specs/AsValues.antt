-- A connection whose links carry octets, beside one whose links carry segments as values.
use Rattle.std.specs.Prelude.{ℕ, ◌≡◌, List}
use Rattle.path_core.specs.Values.{Carried, values}
use Rattle.world_laws.specs.Fresh.{shown_world, IsFreshTurn}
use Rattle.world_laws.specs.Worlds.{WorldState, Turn, world_step, end_round}

-- Where the world before the step is one over values, shown in octets, so is the one after it: that world after the same step.
-- The copy that arrives, if one does, is fresh: it can be said, and its numbers are near those that its end expects, but for the
-- position of a reset far ahead. A segment that is sent and altered on its way can be said.
abbrev pub StepsAsValues : ℕ → WorldState (List ℕ) → WorldState (List ℕ) → Type 0
StepsAsValues actor before after = (w : WorldState Carried) → before ≡ shown_world w → IsFreshTurn (Turn.Step actor) w
    → after ≡ shown_world (world_step values actor w)

-- Where the world before a round's end is one over values, shown in octets, so is the one after it.
abbrev pub EndsAsValues : WorldState (List ℕ) → WorldState (List ℕ) → Type 0
EndsAsValues before after = (w : WorldState Carried) → before ≡ shown_world w → after ≡ shown_world (end_round w)
