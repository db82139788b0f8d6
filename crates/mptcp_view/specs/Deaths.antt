-- The deaths by lines of the script that came in a run.
use Rattle.std.specs.Prelude.{ℕ, ◌+◌, min, nat_le, if◌then◌else◌, Option, Some, None, option_and_then, List}
use Rattle.std.specs.List.{filter_map}
use Rattle.link_script.specs.declared.script.ScriptLine.{ScriptLine}
use Rattle.link_script.specs.declared.script.ScriptLine.TheVariants.{Die}
use Rattle.link_trace.specs.declared.panels.Death.{Death}
use Rattle.path_core.specs.State.{PathState}
use Rattle.world_core.specs.Looking.{path_at}
use Rattle.world_laws.specs.Worlds.{WorldState}

-- where the clock of its path reached its tick
abbrev pub death_by : ℕ → ℕ → PathState (List ℕ) → Option Death
death_by path tick p = if nat_le tick p.clock then Some (record { path = path; tick = tick }) else None

-- the death of a line, in a run that ended with this world; a path is the actor two behind its number
abbrev pub death_in : WorldState (List ℕ) → ScriptLine → Option Death
death_in w (Die path tick) = option_and_then (death_by path tick) (path_at (min (path + 2) 255) w.crew)
death_in w line = None

abbrev pub deaths_in : WorldState (List ℕ) → List ScriptLine → List Death
deaths_in w lines = filter_map (death_in w) lines
