-- The earlier one of two steps.
use Rattle.std.specs.Prelude.{ℕ, nat_lt, Option, Some, None, if◌then◌else◌}
use Rattle.world_core.specs.declared.timed_rounds.NextStep.{NextStep}

-- of a step and that of an actor with a greater number; at one tick the first
abbrev pub sooner : Option NextStep → ℕ → Option ℕ → Option NextStep
sooner step actor None = step
sooner None actor (Some tick) = Some (record { actor = actor; tick = tick })
sooner (Some step) actor (Some tick) = if nat_lt tick step.tick then Some (record { actor = actor; tick = tick }) else Some step
