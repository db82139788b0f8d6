-- Why a run ends as it does: the cause of each status.
use Rattle.std.specs.Prelude.{◌≡◌, ℕ, ◌<◌, List, length, Err, Option, None, IfSome}
use Rattle.link_script.specs.declared.fault.ScriptFault.TheVariants as script_fault
use Rattle.link_script.specs.declared.script.Script as link
use Rattle.run_log.specs.declared.fault.LogFault.TheVariants as log_fault
use Rattle.outside_kit.specs.Outside.{HasRisen}
use Rattle.run_words.specs.Lines.{line_of}
use Rattle.run_outside.specs.declared.status.Named.{Named}
use Rattle.run_outside.specs.declared.status.Named.TheVariants as input
use Rattle.run_outside.specs.declared.status.Status.{Status}
use Rattle.link_script.specs.Reading.{reading}
use Rattle.run_outside.specs.Reading.{log_reading}
use Rattle.run_outside.specs.declared.status.Status.TheVariants.{Usage, Script, Load, TooLong, Memory, Log}

-- the words behind the program's name end a run with this status: they break the form of the command line
abbrev pub IsWordsFault : List (List ℕ) → Status → Type 0
IsWordsFault words Usage = line_of words ≡ None
IsWordsFault words Memory = Unit {0}
IsWordsFault words _ = ⊥

-- how many octets an input may have
abbrev pub limit_of : Named → ℕ
limit_of input.Script = 65536
limit_of input.FileA = 16777216
limit_of input.FileB = 16777216
limit_of input.Order = 268435456

-- a load of this input, whose content may be told, ends a run with this status
abbrev pub IsLoadFault : Named → Option (List ℕ) → ℕ → ℕ → Status → Type 0
-- the device failed, and counted it
IsLoadFault input content old new (Load named) = (named ≡ input) × HasRisen old new
-- the content is longer than its limit
IsLoadFault input content old new (TooLong named) = (named ≡ input) × IfSome content (λ told. limit_of input < length told)
IsLoadFault input content old new Memory = Unit {0}
IsLoadFault input content old new _ = ⊥

-- the script ends a run with this status: it is refused at this line, for this kind
abbrev pub IsScriptFault : List ℕ → Status → Type 0
IsScriptFault script (Script line kind) = reading script ≡ Err (script_fault.Line line kind)
IsScriptFault script Memory = Unit {0}
IsScriptFault script _ = ⊥

-- the form of a log ends a run of a script with this status: it is refused at this line
abbrev pub IsFormFault : link.Script → List ℕ → Status → Type 0
IsFormFault script log (Log line) = log_reading script log ≡ Err (log_fault.Line line)
IsFormFault script log Memory = Unit {0}
IsFormFault script log _ = ⊥
