-- What users of a run rely on: where its script alters no payload, what the readers have is what
-- the other side writes; where it does, and mappings are checked, it is so as long as a reader's side
-- hasn't fallen back; and their number is right in any case.
use Rattle.std.specs.Prelude.{◌≡◌, ℕ, true, false, ◌⊎◌, List, [], ◌∷◌, ◌++◌, length, Option, Some, IfSome, IsSomeAnd}
use Rattle.sides.specs.declared.side.Side.TheVariants.{A, B}
use Rattle.run_words.specs.Lines.{Line}
use Rattle.outside_kit.specs.declared.port.Port.{Port}
use Rattle.outside_kit.specs.declared.port.Port.TheVariants.{ReadByA, ReadByB}
use Rattle.outside_kit.specs.Outside.{HoldsAfter}
use Rattle.octet_text.specs.Prefix.{IsPrefix}
use Rattle.world_laws.specs.AbortCause.{PeerStopped}
use Rattle.world_laws.specs.Altered.{fell_back}
use Rattle.world_laws.specs.Laws.{WritesTheFiles}
use Rattle.world_laws.specs.Openings.{start_of}
use Rattle.world_laws.specs.PlainScripts.{AltersNone, IsPlainScript, IsShortScript, KeepsAllPromises, KeepsAnyway, KeepsChecked, IsShownOfValues}
use Rattle.world_laws.specs.RoundDone.{EndsOnTime, RoundIsDone, round_of}
use Rattle.world_laws.specs.Worlds.{Turn, all_over}
use Rattle.path_core.specs.Octets.{octets}
use Rattle.run_outside.specs.declared.status.Status.{Status}
use Rattle.run_outside.specs.declared.status.Status.TheVariants.{Delivered, Aborted}
use Rattle.mptcp_run.specs.Ends.{HoldsSomeRounds, HoldsToLine}
use Rattle.mptcp_run.specs.Putting.{world_after, IsWhole, IsStopped}
use Rattle.run_outside.specs.declared.input.Input.{Input}
use Rattle.run_outside.specs.Inputs.{AreWithinLimits}
use Rattle.run_outside.specs.Reading.{script_of}
use Rattle.mptcp_run.specs.Task.{Connection, Task, Course, rounds, threads, told, task_of}

-- both files are shorter than 2^31 - 2 octets
abbrev pub IsShortTask : Task → Type 0
IsShortTask task = IsShortScript task.script task.file_a task.file_b

-- both files are short, and no line of the script alters a payload
abbrev pub IsPlainTask : Task → Type 0
IsPlainTask task = IsPlainScript task.script task.file_a task.file_b

-- what was read is a script and two such files
abbrev pub IsShortInput : Input → Type 0
IsShortInput input = IsShortScript input.script input.file_a input.file_b

-- no line of the script that a command line names alters a payload
abbrev pub NoneIsAltered : (List ℕ → Option (List ℕ)) → Line → Type 0
NoneIsAltered content line = IsSomeAnd (script_of content line) AltersNone

-- the last turn is the end of a round, as it is of each run of rounds and in each log
abbrev pub EndsWithRound : Course → Type 0
EndsWithRound (rounds schedule most) = Unit {0}
EndsWithRound (threads most) = Unit {0}
EndsWithRound (told order) = (prefix : List Turn) × (order ≡ prefix ++ Turn.Round ∷ [])

-- the task's files are short, and its last turn is the end of a round
pub record IsPromisedTask (task : Task) : Type 0 where
  pub short : IsShortTask task
  pub ends : EndsWithRound task.course

-- a port that told what it held holds a prefix of this file
abbrev pub HoldsPrefixOf : Option (List ℕ) → Option (List ℕ) → List ℕ → Type 0
HoldsPrefixOf old new file = IfSome old (λ _. IsSomeAnd new (λ text. IsPrefix text file))

-- a port that told what it held holds a prefix of this file, or what it held, where it wasn't bound
abbrev pub HoldsPrefixIfBound : Option (List ℕ) → Option (List ℕ) → List ℕ → Type 0
HoldsPrefixIfBound old new file =
    IfSome old (λ held. (new ≡ Some held) ⊎ IsSomeAnd new (λ text. IsPrefix text file))

-- a port that told what it held holds as many octets as this file has
abbrev pub HoldsAsMany : Option (List ℕ) → Option (List ℕ) → List ℕ → Type 0
HoldsAsMany old new file = IfSome old (λ _. IsSomeAnd new (λ text. length text ≡ length file))

-- where these are the files that A and B write, as far as they are told
module _ (file_a file_b : Option (List ℕ)) (old new : Port → Option (List ℕ)) where
  -- what each reader's port holds is all that the other side writes
  pub record ReadersHaveFiles : Type 0 where
    pub read_by_b : IfSome file_a (λ file. HoldsAfter (old ReadByB) (new ReadByB) (λ _. file))
    pub read_by_a : IfSome file_b (λ file. HoldsAfter (old ReadByA) (new ReadByA) (λ _. file))

  -- what each reader's port holds has as many octets as the other side writes
  pub record ReadersHaveAsMany : Type 0 where
    pub read_by_b : IfSome file_a (λ file. HoldsAsMany (old ReadByB) (new ReadByB) file)
    pub read_by_a : IfSome file_b (λ file. HoldsAsMany (old ReadByA) (new ReadByA) file)

  -- what each reader's port holds is a prefix of what the other side writes
  pub record ReadersHavePrefixes : Type 0 where
    pub read_by_b : IfSome file_a (λ file. HoldsPrefixOf (old ReadByB) (new ReadByB) file)
    pub read_by_a : IfSome file_b (λ file. HoldsPrefixOf (old ReadByA) (new ReadByA) file)

  -- what each reader's port holds is a prefix of what the other side writes, or what it held, where it wasn't bound
  pub record ReadersHavePrefixesIfBound : Type 0 where
    pub read_by_b : IfSome file_a (λ file. HoldsPrefixIfBound (old ReadByB) (new ReadByB) file)
    pub read_by_a : IfSome file_b (λ file. HoldsPrefixIfBound (old ReadByA) (new ReadByA) file)

-- where the status is that a reader was told of an abort by its peer, the peer's application had asked for a fast close, and the
-- reader's side had accepted one with its own key
abbrev pub IsAbortCaused : Status → Connection → Type 0
IsAbortCaused (Aborted reader) w = PeerStopped reader w
IsAbortCaused _ w = Unit {0}

-- What a reader's port holds at a run's own end, where mappings are checked and the reader's side hasn't fallen back: a prefix of
-- the other side's file, and at Delivered all of it.
pub record HoldsWhatIsRight (status : Status) (old new : Option (List ℕ)) (file : List ℕ) : Type 0 where
  pub prefix : HoldsPrefixOf old new file
  pub whole : status ≡ Delivered → HoldsAfter old new (λ _. file)

-- where its side hasn't fallen back by these turns, each reader's port holds what is right
pub record CheckedReadersAreRight (task : Task) (status : Status) (w : Connection) (old new : Port → Option (List ℕ)) : Type 0 where
  pub read_by_b : fell_back B w ≡ false → HoldsWhatIsRight status (old ReadByB) (new ReadByB) task.file_a
  pub read_by_a : fell_back A w ≡ false → HoldsWhatIsRight status (old ReadByA) (new ReadByA) task.file_b

-- The connection after these turns.
pub record IsKept (task : Task) (turns : List Turn) : Type 0 where
  -- Whatever the script alters: what was acknowledged was received, the end was told only at the
  -- whole length, and nothing follows it; and all else that needs no octet to be right.
  pub anyway : KeepsAnyway (world_after task turns)
  -- Where mappings are checked: what was read and placed until its side fell back is right.
  pub checked : task.script.checksum ≡ true → KeepsChecked (world_after task turns)
  -- Where no line alters a payload: in each direction what was read is a prefix of what was written,
  -- and the end was told only at the whole; and all else that is promised of a connection over octets.
  pub promises : AltersNone task.script → KeepsAllPromises (world_after task turns)
  -- What was written is a prefix of the side's file, and all of it where the stream was closed.
  pub files : WritesTheFiles (start_of task.script task.file_a task.file_b) (world_after task turns)
  -- The connection is the one over segments as values, shown in octets.
  pub values : IsShownOfValues (start_of task.script task.file_a task.file_b) turns
  -- The round that goes on ends on each path at its tick; and where all turns are over, all that
  -- was due is done.
  pub on_time : EndsOnTime (round_of octets (start_of task.script task.file_a task.file_b) turns) (world_after task turns)
  pub done : all_over (world_after task turns).crew ≡ true
      → RoundIsDone (round_of octets (start_of task.script task.file_a task.file_b) turns) (world_after task turns)

-- a task's promises are kept after all turns, in whatever order
abbrev pub IsAlwaysKept : Task → Type 0
IsAlwaysKept task = (turns : List Turn) → IsKept task turns

-- ---- laws

-- the task of a command line, where its files are within their limits
abbrev pub LoadedTasksArePromised : Type 0
LoadedTasksArePromised = (content : List ℕ → Option (List ℕ)) (line : Line) → AreWithinLimits content line → IfSome (task_of content line) IsPromisedTask

-- the task of a command line within its limits is plain where no line of its script alters a payload
abbrev pub LoadedTasksArePlain : Type 0
LoadedTasksArePlain = (content : List ℕ → Option (List ℕ)) (line : Line) → AreWithinLimits content line
    → IfSome (task_of content line) (λ task. AltersNone task.script → IsPlainTask task)

-- each task with short files keeps its promises, after any turns
abbrev pub ShortTasksAreKept : Type 0
ShortTasksAreKept = (task : Task) (turns : List Turn) → IsShortTask task → IsKept task turns

-- a run that came to its own end, whatever its script alters
abbrev pub DeliveredRunsGiveAsMany : Type 0
DeliveredRunsGiveAsMany =
    (task : Task) (old new : Port → Option (List ℕ)) → IsShortTask task → EndsWithRound task.course
    → IsWhole task Delivered old new → ReadersHaveAsMany (Some task.file_a) (Some task.file_b) old new

-- where mappings are checked
abbrev pub CheckedRunsAreRight : Type 0
CheckedRunsAreRight =
    (task : Task) (status : Status) (old new : Port → Option (List ℕ)) → IsShortTask task → EndsWithRound task.course → task.script.checksum ≡ true
    → (whole : IsWhole task status old new) → CheckedReadersAreRight task status (world_after task whole.turns) old new

-- where nothing is altered
abbrev pub WholeRunsGivePrefixes : Type 0
WholeRunsGivePrefixes =
    (task : Task) (status : Status) (old new : Port → Option (List ℕ)) → IsPlainTask task
    → IsWhole task status old new → ReadersHavePrefixes (Some task.file_a) (Some task.file_b) old new

-- at Delivered, where nothing is altered, each reader's port holds the whole file of the other side
abbrev pub DeliveredRunsGiveFiles : Type 0
DeliveredRunsGiveFiles =
    (task : Task) (old new : Port → Option (List ℕ)) → IsPlainTask task → EndsWithRound task.course
    → IsWhole task Delivered old new → ReadersHaveFiles (Some task.file_a) (Some task.file_b) old new

-- whose last state shows why it was aborted, whatever is altered
abbrev pub WholeRunsHaveCause : Type 0
WholeRunsHaveCause =
    (task : Task) (status : Status) (old new : Port → Option (List ℕ)) → IsShortTask task
    → (whole : IsWhole task status old new) → IsAbortCaused status (world_after task whole.turns)

-- a run that stopped at a turn that can't be made
abbrev pub StoppedRunsGivePrefixes : Type 0
StoppedRunsGivePrefixes =
    (task : Task) (opening line : ℕ) (old new : Port → Option (List ℕ)) → IsPlainTask task
    → IsStopped task opening line old new → ReadersHavePrefixes (Some task.file_a) (Some task.file_b) old new

-- a run that was cut off in its rounds
abbrev pub CutRunsGivePrefixes : Type 0
CutRunsGivePrefixes =
    (task : Task) (old new : Port → Option (List ℕ)) → IsPlainTask task → HoldsSomeRounds task old new
    → ReadersHavePrefixesIfBound (Some task.file_a) (Some task.file_b) old new

-- in a run cut off at its last line, where nothing is altered, each reader's port holds a prefix of the other's file
abbrev pub LinesCutGivePrefixes : Type 0
LinesCutGivePrefixes =
    (task : Task) (turns : List Turn) (old new : Port → Option (List ℕ)) → IsPlainTask task
    → HoldsToLine task turns old new → ReadersHavePrefixes (Some task.file_a) (Some task.file_b) old new
