-- The ends of the rounds of a list of turns, with what was done and read up to them.
use Rattle.std.specs.Prelude.{ℕ, List, [], ◌∷◌}
use Rattle.sides.specs.declared.side.Side.{Side}
use Rattle.actor_desk.specs.declared.ask.Note.{Note}
use Rattle.actor_desk.specs.Journals.{in_order}
use Rattle.path_core.specs.Octets.{octets}
use Rattle.world_laws.specs.Fine.{lists_of}
use Rattle.world_laws.specs.Outcomes.{output_of}
use Rattle.world_laws.specs.Worlds.{WorldState, Turn, world_step, end_round, greatest}

-- a connection whose links carry octets
abbrev Connection : Type 0
Connection = WorldState (List ℕ)

-- the connection at the end of each round of these turns
abbrev pub round_ends : List Turn → Connection → List Connection
round_ends [] w = []
round_ends (Turn.Step actor ∷ turns) w = round_ends turns (world_step octets actor w)
round_ends (Turn.Round ∷ turns) w = end_round w ∷ round_ends turns (end_round w)

-- at the end of the last one, or before all of them
abbrev pub last_end : Connection → List Connection → Connection
last_end w [] = w
last_end w (v ∷ ends) = last_end v ends

-- the steps of a round, by stamp, then actor: those above the greatest stamp at its beginning
abbrev pub round_steps : Connection → Connection → List Note
round_steps w v = in_order (greatest 0 w.crew) (lists_of v.crew)

-- the steps of each round
abbrev pub steps_by_round : Connection → List Connection → List (List Note)
steps_by_round w [] = []
steps_by_round w (v ∷ ends) = round_steps w v ∷ steps_by_round v ends

-- all that the reader of a side has read at the last end
abbrev pub read_to_end : Side → List Turn → Connection → List ℕ
read_to_end s turns w = output_of s (last_end w (round_ends turns w))
