-- The script that a command line names, and what the log of its run has of it.
use Rattle.std.specs.Prelude.{ℕ, ◌+◌, ◌≡◌, List, [], ◌∷◌, ◌++◌, length, Result, Option, option_and_then, if◌then◌else◌}
use Rattle.std.specs.Result.{result_ok}
use Rattle.link_script.specs.Reading.{reading}
use Rattle.link_script.specs.declared.script.Script.{Script}
use Rattle.run_log.specs.declared.fault.LogFault.{LogFault}
use Rattle.run_log.specs.declared.turn.Turn.{Turn}
use Rattle.run_log.specs.declared.turn.Turn.TheVariants as turn
use Rattle.run_log.specs.Form as form
use Rattle.run_words.specs.Lines.{Line}

-- the script that a text says, if it says one
abbrev pub script_in : List ℕ → Option Script
script_in text = result_ok (reading text)

-- the script that a command line names, where it is told and valid
abbrev pub script_of : (List ℕ → Option (List ℕ)) → Line → Option Script
script_of content line = option_and_then script_in (content line.names.script)

-- ---- the log of its run

-- how many actors a run has: two applications, and each path
abbrev pub actors_of : Script → ℕ
actors_of script = 2 + length script.paths

-- how many octets a data number has
abbrev pub width_of : Script → ℕ
width_of script = if script.short then 4 else 8

-- the turns that a log tells of a run of this script, or the first line that is refused
abbrev pub log_reading : Script → List ℕ → Result (List Turn) LogFault
log_reading script log = form.reading (actors_of script) (width_of script) log

-- the last of these turns is the end of a round, as it is in each log
abbrev pub EndsInRound : List Turn → Type 0
EndsInRound turns = (before : List Turn) × (turns ≡ before ++ turn.Round ∷ [])
