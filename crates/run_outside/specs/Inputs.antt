-- What a run reads: which contents are within their limits, and which fault of a load ends it.
use Rattle.std.specs.Prelude.{◌≡◌, ℕ, ◌<◌, ◌≤◌, List, length, Option, Some, None, option_and_then, IfSome, IsSome, IsSomeAnd, Err, IsOk, if◌then◌else◌, codes}
use Rattle.std.specs.Str.{bytes_eq}
use Rattle.link_script.specs.declared.fault.ScriptFault.TheVariants as script_fault
use Rattle.run_log.specs.declared.fault.LogFault.TheVariants as log_fault
use Rattle.outside_kit.specs.Outside.{HasRisen}
use Rattle.run_words.specs.Lines.{Line, Work, replay}
use Rattle.run_outside.specs.declared.status.Named.{Named}
use Rattle.run_outside.specs.declared.status.Named.TheVariants as input
use Rattle.run_outside.specs.declared.status.Status.{Status}
use Rattle.run_outside.specs.declared.status.Status.TheVariants.{Script, Load, TooLong, Memory, Log}
use Rattle.run_outside.specs.Causes.{limit_of}
use Rattle.link_script.specs.Reading.{reading}
use Rattle.run_outside.specs.Parting.{parted_at}
use Rattle.run_outside.specs.Reading.{script_of, log_reading}

-- the name of the log whose steps are made again
abbrev pub order_of : Work → Option (List ℕ)
order_of (replay log) = Some log
order_of work = None

-- the name of an input; only `replay` reads a log
abbrev pub name_of : Named → Line → Option (List ℕ)
name_of input.Script line = Some line.names.script
name_of input.FileA line = Some line.names.file_a
name_of input.FileB line = Some line.names.file_b
name_of input.Order line = order_of line.work

-- the content of an input, where it is told
abbrev pub content_of : (List ℕ → Option (List ℕ)) → Line → Named → Option (List ℕ)
content_of content line named = option_and_then content (name_of named line)

-- the content of this input, where it is told, is within its limit
abbrev pub IsWithinLimit : (List ℕ → Option (List ℕ)) → Line → Named → Type 0
IsWithinLimit content line named = IfSome (content_of content line named) (λ told. length told ≤ limit_of named)

-- the inputs that are loaded before this one are within their limits
abbrev pub AreWithinLimitsBefore : (List ℕ → Option (List ℕ)) → Line → Named → Type 0
AreWithinLimitsBefore content line input.Script = Unit {0}
AreWithinLimitsBefore content line input.FileA = IsWithinLimit content line input.Script
AreWithinLimitsBefore content line input.FileB = IsWithinLimit content line input.Script × IsWithinLimit content line input.FileA
AreWithinLimitsBefore content line input.Order =
    IsWithinLimit content line input.Script × (IsWithinLimit content line input.FileA × IsWithinLimit content line input.FileB)

-- the script and both files are within their limits
abbrev pub AreFirstWithinLimits : (List ℕ → Option (List ℕ)) → Line → Type 0
AreFirstWithinLimits content line = AreWithinLimitsBefore content line input.Order

-- a load ends a run with this status
abbrev pub IsLoadsFault : (List ℕ → Option (List ℕ)) → Line → ℕ → ℕ → Status → Type 0
-- the device failed at an input of the run, and counted it; what was loaded before is within its limits
IsLoadsFault content line old new (Load named) = IsSome (name_of named line) × (HasRisen old new × AreWithinLimitsBefore content line named)
-- the content is longer than its limit, and the first such one
IsLoadsFault content line old new (TooLong named) =
    IsSome (name_of named line)
    × (IfSome (content_of content line named) (λ told. limit_of named < length told) × AreWithinLimitsBefore content line named)
IsLoadsFault content line old new Memory = Unit {0}
IsLoadsFault content line old new _ = ⊥

-- what a run reads ends it with this status: a load, or the script, all loads being done
abbrev pub IsInputFault : (List ℕ → Option (List ℕ)) → Line → ℕ → ℕ → Status → Type 0
IsInputFault content line old new (Script at kind) =
    AreFirstWithinLimits content line × IfSome (content line.names.script) (λ told. reading told ≡ Err (script_fault.Line at kind))
IsInputFault content line old new status = IsLoadsFault content line old new status

-- what a run of the steps of a log loads ends it with this status: a load, or the script, all loads being done
abbrev pub IsLoggedFault : (List ℕ → Option (List ℕ)) → Line → ℕ → ℕ → Status → Type 0
IsLoggedFault content line old new (Script at kind) =
    ((named : Named) → IsWithinLimit content line named) × IfSome (content line.names.script) (λ told. reading told ≡ Err (script_fault.Line at kind))
IsLoggedFault content line old new status = IsLoadsFault content line old new status

-- what a replay loads ends it with this status: a load, the script, or the form of the log, the script being valid
abbrev pub IsReplayInputFault : (List ℕ → Option (List ℕ)) → Line → ℕ → ℕ → Status → Type 0
IsReplayInputFault content line old new (Script at kind) =
    ((named : Named) → IsWithinLimit content line named) × IfSome (content line.names.script) (λ told. reading told ≡ Err (script_fault.Line at kind))
IsReplayInputFault content line old new (Log at) =
    ((named : Named) → IsWithinLimit content line named)
    × (IfSome (content line.names.script) (λ told. IsOk (reading told))
    × IfSome (script_of content line) (λ script. IfSome (content_of content line input.Order) (λ told. log_reading script told ≡ Err (log_fault.Line at))))
IsReplayInputFault content line old new status = IsLoadsFault content line old new status

-- how many lines of a log stand before its first turn: one less where the first line names the format without a width
abbrev pub opening_count : List ℕ → ℕ
opening_count log = if bytes_eq (parted_at 10 log).0 (codes "mptcp-log 1") then 2 else 3

-- ---- what of the contents is told, and within its limit

-- each input is within its limit
abbrev pub AreWithinLimits : (List ℕ → Option (List ℕ)) → Line → Type 0
AreWithinLimits content line = (named : Named) → IsWithinLimit content line named

-- the script is valid
abbrev pub HasValidScript : (List ℕ → Option (List ℕ)) → Line → Type 0
HasValidScript content line = IfSome (content line.names.script) (λ told. IsOk (reading told))

-- a log of `replay` has its form
abbrev pub HasValidOrder : (List ℕ → Option (List ℕ)) → Line → Type 0
HasValidOrder content line = IfSome (script_of content line) (λ script. IfSome (content_of content line input.Order) (λ told. IsOk (log_reading script told)))

-- all contents are told, within their limits, and valid
pub record IsValid (content : List ℕ → Option (List ℕ)) (line : Line) : Type 0 where
  pub script : IsSomeAnd (content line.names.script) (λ told. IsOk (reading told))
  pub file_a : IsSome (content line.names.file_a)
  pub file_b : IsSome (content line.names.file_b)
  pub order : IfSome (order_of line.work) (λ log. IsSomeAnd (content log) (λ told. IfSome (script_of content line) (λ script. IsOk (log_reading script told))))
  pub within : AreWithinLimits content line
