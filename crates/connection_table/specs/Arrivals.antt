-- The copy which arrives next is lent exactly where the path's next ask takes one from the link.
use Rattle.std.specs.Prelude.{ℕ, ◌≡◌, Bool, true, false, is_some, Option, Some, List}
use Rattle.actor_desk.specs.declared.ask.Ask.{Ask}
use Rattle.actor_desk.specs.declared.ask.Ask.TheVariants as asks
use Rattle.actor_desk.specs.declared.ask.LocalStep.TheVariants as steps
use Rattle.path_core.specs.Looking.{next_arrival}
use Rattle.path_core.specs.Octets.{octets}
use Rattle.path_core.specs.State.{PathState}
use Rattle.path_core.specs.Steps.{asks_of}

abbrev pub takes_a_copy : Option Ask → Bool
takes_a_copy (Some (asks.Local (steps.Arrive to copy))) = true
takes_a_copy _ = false

-- for every path over octets a copy arrives next exactly where the next ask takes one
abbrev pub EachArrivalIsLent : Type 0
EachArrivalIsLent = (p : PathState (List ℕ)) → is_some (next_arrival p) ≡ takes_a_copy (asks_of octets p)
