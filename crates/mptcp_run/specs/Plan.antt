-- The order of work: which calls a run makes on its outside.
use Rattle.std.specs.Prelude.{ℕ, suc, List, [], ◌∷◌, ◌++◌, drop, length, Option}
use Rattle.outside_kit.specs.declared.port.Port.TheVariants as port
use Rattle.sides.specs.declared.side.Side.{Side}
use Rattle.sides.specs.declared.side.Side.TheVariants.{A, B}
use Rattle.outside_kit.specs.Calls.{Call}
use Rattle.outside_kit.specs.Calls as call
use Rattle.world_laws.specs.Outcomes.{output_of}
use Rattle.world_laws.specs.Worlds.{Turn}
use Rattle.world_core.specs.RoundEnds.{round_steps}
use Rattle.run_outside.specs.LogText.{round_text}
use Rattle.mptcp_run.specs.Putting.{opening_in, last_line, ends_of}
use Rattle.mptcp_run.specs.Task.{Connection, Task, first_world}
use Rattle.run_outside.specs.Plan.{puts_of}

-- ---- puts

-- what the reader of a side has read, from this world to that one
abbrev pub read_in : Side → Connection → Connection → List ℕ
read_in s last w = drop (length (output_of s last)) (output_of s w)

-- the puts of the round from this world to that one
abbrev pub round_puts : Option (List ℕ) → ℕ → Connection → Connection → List Call
round_puts opening number last w = puts_of (read_in B last w) (read_in A last w) (round_text opening number (round_steps last w))

-- the puts of rounds, of which the first has this number
abbrev pub puts_by_round : Option (List ℕ) → ℕ → Connection → List Connection → List Call
puts_by_round opening number last [] = []
puts_by_round opening number last (w ∷ ends) = round_puts opening number last w ++ puts_by_round opening (suc number) w ends

-- the puts of the rounds that these turns end
abbrev pub puts_so_far : Task → List Turn → List Call
puts_so_far task turns = puts_by_round (opening_in task) 0 (first_world task) (ends_of task turns)

-- the put of the last line
abbrev pub last_put : Task → List Turn → List Call
last_put task turns = call.Put port.Log (last_line task turns) ∷ []

-- all puts of a run of these turns: those of all its rounds, and the last line
abbrev pub all_puts : Task → List Turn → List Call
all_puts task turns = puts_so_far task turns ++ last_put task turns
