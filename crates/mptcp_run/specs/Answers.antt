-- What a run says by its status: a row for each.
use Rattle.std.specs.Prelude.{◌≡◌, ℕ, true, ◌⊎◌, List, [], Err, Option, Some, IfSome, IsSome}
use Rattle.outside_kit.specs.declared.port.Port.{Port}
use Rattle.outside_kit.specs.Calls.{Call}
use Rattle.outside_kit.specs.Outside.{Told, HasRisen}
use Rattle.link_script.specs.declared.fault.ScriptKind.{ScriptKind}
use Rattle.link_script.specs.declared.fault.ScriptFault.TheVariants as script_fault
use Rattle.run_log.specs.declared.fault.LogFault.TheVariants as log_fault
use Rattle.run_words.specs.Lines.{Line}
use Rattle.run_outside.specs.declared.status.Named.{Named}
use Rattle.run_outside.specs.declared.status.Named.TheVariants as input
use Rattle.run_outside.specs.declared.status.Status.{Status}
use Rattle.run_outside.specs.declared.status.Status.TheVariants.{Delivered, Rounds, NoPath, Aborted, Usage, Script, Load, Put, TooLong, Memory, Log}
use Rattle.mptcp_run.specs.Ends.{HasEnded, IsCut}
use Rattle.run_outside.specs.Inputs.{order_of, content_of, IsLoadsFault, opening_count, AreWithinLimits, HasValidScript, HasValidOrder, IsValid}
use Rattle.mptcp_run.specs.Logged.{LogTellsTheRun}
use Rattle.mptcp_run.specs.Made.{Bench}
use Rattle.run_outside.specs.Plan.{AddsAll, AddsCut, AddsLoadsTo, loads_of, plan_of}
use Rattle.mptcp_run.specs.Plan.{puts_so_far, all_puts}
use Rattle.run_outside.specs.Ports.{IsUntouched, Ports}
use Rattle.mptcp_run.specs.Promised.{CheckedReadersAreRight, IsAbortCaused, IsAlwaysKept, NoneIsAltered, ReadersHaveAsMany, ReadersHaveFiles, ReadersHavePrefixes, ReadersHavePrefixesIfBound}
use Rattle.mptcp_run.specs.Putting.{IsWhole, IsStopped, world_after}
use Rattle.link_script.specs.Reading.{reading}
use Rattle.run_outside.specs.Reading.{script_of, log_reading}
use Rattle.mptcp_run.specs.Task.{Task, task_of}

-- ---- what was read

-- The inputs are within their limits, the script is valid, and a log of `replay` has its form. Of
-- the task that they make: after each list of turns its connection keeps its promises.
pub record WasRead (content : List ℕ → Option (List ℕ)) (line : Line) : Type 0 where
  pub within : AreWithinLimits content line
  pub script : HasValidScript content line
  pub order : HasValidOrder content line
  pub kept : IfSome (task_of content line) IsAlwaysKept

-- A run of a task came to its own end: the ports hold the run of all its turns, these are the puts
-- of them, the log tells them, and an abort by a reader's peer has its cause. Where mappings are
-- checked, what a reader got whose side hasn't fallen back is right.
pub record HasRun (task : Task) (status : Status) (puts : List Call) (held holds : Ports) : Type 0 where
  pub whole : IsWhole task status held holds
  pub puts_are : puts ≡ all_puts task whole.turns
  pub logged : LogTellsTheRun task whole.turns status held holds
  pub caused : IsAbortCaused status (world_after task whole.turns)
  pub checked : task.script.checksum ≡ true
      → CheckedReadersAreRight task status (world_after task whole.turns) held holds

-- A run stopped at a turn that can't be made: the ports hold the rounds before, and the puts are those of these rounds.
pub record HasStopped (task : Task) (opening line : ℕ) (puts : List Call) (held holds : Ports) : Type 0 where
  pub stopped : IsStopped task opening line held holds
  pub puts_are : puts ≡ puts_so_far task stopped.before

-- ---- a run of `run`, `serial`, `timed` or `replay`

module _ (line : Line) (old new : Told) where
  -- an input can't be loaded, or is too long
  pub record LoadRow (named : Named) (status : Status) : Type 0 where
    pub cause : IsLoadsFault old.content line old.load_faults new.load_faults status
    pub untouched : IsUntouched old new
    pub calls : AddsLoadsTo named line old.calls new.calls

  -- the script is refused at this line
  pub record ScriptRow (at : ℕ) (kind : ScriptKind) : Type 0 where
    pub within : AreWithinLimits old.content line
    pub cause : IfSome (old.content line.names.script)
        (λ text. reading text ≡ Err (script_fault.Line at kind))
    pub untouched : IsUntouched old new
    pub calls : AddsAll (loads_of line) old.calls new.calls

  -- the log breaks its form at this line
  pub record FormRow (at : ℕ) : Type 0 where
    pub replay : IsSome (order_of line.work)
    pub within : AreWithinLimits old.content line
    pub script : HasValidScript old.content line
    pub cause : IfSome (script_of old.content line) (λ script.
        IfSome (content_of old.content line input.Order)
        (λ log. log_reading script log ≡ Err (log_fault.Line at)))
    pub untouched : IsUntouched old new
    pub calls : AddsAll (loads_of line) old.calls new.calls

  -- the log has its form, and its turn in this line is the first that can't be made
  pub record TurnRow (at : ℕ) : Type 0 where
    pub replay : IsSome (order_of line.work)
    pub read : WasRead old.content line
    pub puts : List Call
    pub stopped : IfSome (content_of old.content line input.Order) (λ log. IfSome
        (task_of old.content line) (λ task. HasStopped task (opening_count log) at puts old.holds new.holds))
    pub prefixes : NoneIsAltered old.content line
        → ReadersHavePrefixes (old.content line.names.file_a) (old.content line.names.file_b) old.holds new.holds
    pub calls : AddsAll (plan_of (loads_of line) line puts) old.calls new.calls

  -- the run was cut off behind its loads
  pub record CutRow (status : Status) : Type 0 where
    pub read : WasRead old.content line
    pub cut : IfSome (task_of old.content line)
        (λ task. IsCut (loads_of line) line task old new status)
    pub prefixes : NoneIsAltered old.content line → ReadersHavePrefixesIfBound
        (old.content line.names.file_a) (old.content line.names.file_b) old.holds new.holds
    pub calls : (puts : List Call) × AddsCut (plan_of (loads_of line) line puts) status old.calls new.calls

  -- before them, or in them
  pub record UnbegunRow : Type 0 where
    pub untouched : IsUntouched old new
    pub calls : AddsCut (loads_of line) Memory old.calls new.calls

  -- the run came to its own end
  pub record EndRow (status : Status) : Type 0 where
    pub read : WasRead old.content line
    pub puts : List Call
    pub run : IfSome (task_of old.content line) (λ task. HasRun task status puts old.holds new.holds)
    pub prefixes : NoneIsAltered old.content line
        → ReadersHavePrefixes (old.content line.names.file_a) (old.content line.names.file_b) old.holds new.holds
    pub calls : AddsAll (plan_of (loads_of line) line puts) old.calls new.calls

  -- each reader was told the end: its port holds as many octets as the other side's file has,
  -- and where no line of the script alters a payload, that file
  pub record DeliveredRow : Type 0 where
    pub row : EndRow Delivered
    pub many : ReadersHaveAsMany (old.content line.names.file_a) (old.content line.names.file_b) old.holds new.holds
    pub files : NoneIsAltered old.content line
        → ReadersHaveFiles (old.content line.names.file_a) (old.content line.names.file_b) old.holds new.holds

  -- the row of each status
  abbrev pub IsAnswer : Status → Type 0
  IsAnswer Delivered = DeliveredRow
  IsAnswer Rounds = EndRow Rounds
  IsAnswer NoPath = EndRow NoPath
  IsAnswer (Aborted reader) = EndRow (Aborted reader)
  IsAnswer (Put port) = HasRisen (old.port_faults port) (new.port_faults port) × CutRow (Put port)
  IsAnswer Memory = UnbegunRow ⊎ CutRow Memory
  IsAnswer (Log at) = FormRow at ⊎ TurnRow at
  IsAnswer (Script at kind) = ScriptRow at kind
  IsAnswer (Load named) = LoadRow named (Load named)
  IsAnswer (TooLong named) = LoadRow named (TooLong named)
  IsAnswer Usage = ⊥

-- ---- a run of `bench`: nothing is loaded

module _ (made : Bench) (old new : Told) where
  -- The run of the made task came to its own end. Where mappings are checked, what a reader got whose
  -- side hasn't fallen back is right.
  pub record MadeEndRow (status : Status) : Type 0 where
    pub whole : IsWhole made.task status old.holds new.holds
    pub checked : made.task.script.checksum ≡ true
        → CheckedReadersAreRight made.task status (world_after made.task whole.turns) old.holds new.holds
    pub prefixes : ReadersHavePrefixes (Some made.task.file_a) (Some made.task.file_b)
        old.holds new.holds
    pub calls : AddsAll (plan_of [] made.line (all_puts made.task whole.turns)) old.calls new.calls

  -- the run was cut off
  pub record MadeCutRow (status : Status) : Type 0 where
    pub cut : IsCut [] made.line made.task old new status
    pub prefixes : ReadersHavePrefixesIfBound (Some made.task.file_a) (Some made.task.file_b)
        old.holds new.holds

  -- the row of each status; where nothing is loaded, and no line is a fast close, some never come
  abbrev pub MadeRow : Status → Type 0
  MadeRow Delivered =
      MadeEndRow Delivered
      × ReadersHaveFiles (Some made.task.file_a) (Some made.task.file_b) old.holds new.holds
  MadeRow Rounds = MadeEndRow Rounds
  MadeRow NoPath = MadeEndRow NoPath
  MadeRow (Aborted reader) = ⊥
  MadeRow (Put port) = HasRisen (old.port_faults port) (new.port_faults port) × MadeCutRow (Put port)
  MadeRow Memory = MadeCutRow Memory
  MadeRow (Log at) = ⊥
  MadeRow (Script at kind) = ⊥
  MadeRow (Load named) = ⊥
  MadeRow (TooLong named) = ⊥
  MadeRow Usage = ⊥

  -- the row of the status; nothing was loaded, and the made task keeps its promises
  pub record IsMadeAnswer (status : Status) : Type 0 where
    pub row : MadeRow status
    pub kept : IsAlwaysKept made.task
    pub unloaded : new.load_faults ≡ old.load_faults

-- ---- words that ask for no run

-- the words are refused, or memory is wanting; no call was made, and all is as it was
pub record NothingWasRun (old new : Told) (status : Status) : Type 0 where
  pub answer : (status ≡ Usage) ⊎ (status ≡ Memory)
  pub untouched : IsUntouched old new
  pub unloaded : new.load_faults ≡ old.load_faults
  pub calls : AddsAll [] old.calls new.calls

-- ---- laws

-- A run of words whose inputs are told, within their limits and valid, of which no count rose,
-- comes to its own end, or memory is wanting, or in `replay` a turn can't be made.
abbrev pub ValidInputsAreRun : Type 0
ValidInputsAreRun =
    (line : Line) (old new : Told)
    (status : Status)
    → IsAnswer line old new status
    → IsValid old.content line → (HasRisen old.load_faults new.load_faults → ⊥)
    → ((port : Port) → HasRisen (old.port_faults port) (new.port_faults port) → ⊥)
    → HasEnded status
    ⊎ ((status ≡ Memory) ⊎ ((at : ℕ) × ((status ≡ Log at) × IsSome (order_of line.work))))
