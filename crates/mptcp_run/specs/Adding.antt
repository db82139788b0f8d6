-- The calls that the parts of a run make.
use Rattle.std.specs.Prelude.{ℕ, List, [], Option}
use Rattle.outside_kit.specs.Calls.{Call}
use Rattle.world_laws.specs.Worlds.{Turn, end_round}
use Rattle.mptcp_run.specs.Plan.{round_puts}
use Rattle.mptcp_run.specs.Task.{Connection}

-- ---- the turns of a log

-- a step makes none
abbrev pub turn_puts : Option (List ℕ) → ℕ → Turn → Connection → Connection → List Call
turn_puts opening number (Turn.Step actor) last w = []
turn_puts opening number Turn.Round last w = round_puts opening number last (end_round w)
