-- What is promised of a script for which so many rounds are known to be enough: a clean one, which has one path, and no line on which something happens;
-- and one of whose text is known that few segments are lost.
use Rattle.std.specs.Prelude.{◌≡◌, ℕ, ◌≤◌, ◌⊎◌, length, IsSomeAnd, Option}
use Rattle.outside_kit.specs.declared.port.Port.{Port}
use Rattle.outside_kit.specs.Outside.{Told, HasRisen}
use Rattle.link_script.specs.declared.script.Script.{Script}
use Rattle.clean_finish.specs.Bound.{enough}
use Rattle.run_words.specs.Lines.{Line}
use Rattle.run_outside.specs.declared.status.Status.{Status}
use Rattle.run_outside.specs.declared.status.Status.TheVariants.{Delivered, Memory}
use Rattle.run_outside.specs.Inputs.{IsValid}
use Rattle.mptcp_run.specs.Answers.{IsAnswer}
use Rattle.mptcp_run.specs.Enough.{few_enough, rounds_enough}
use Rattle.mptcp_run.specs.Task.{Task, Course, rounds, threads, told, task_of}

-- a course isn't told by a log, and may have this many rounds
abbrev pub AsksRounds : ℕ → Course → Type 0
AsksRounds least (rounds schedule most) = least ≤ most
AsksRounds least (threads most) = least ≤ most
AsksRounds least (told order) = ⊥

-- how many rounds are enough for a script, and files of these lengths; none where nothing is known
abbrev pub Bound : Type 0
Bound = Script → ℕ → ℕ → Option ℕ

-- it is known of the script, and so many rounds may be made as are enough for its files
abbrev pub HasRoundsBy : Bound → Task → Type 0
HasRoundsBy bound task = IsSomeAnd (bound task.script (length task.file_a) (length task.file_b)) (λ least. AsksRounds least task.course)

-- Where the inputs of a command line are told, within their limits and valid, it is known of its script, and its rounds are enough,
-- its run delivers both files, or memory is wanting, as long as no count of faults rises.
abbrev pub DeliversBy : Bound → Line → Told → Told → Status → Type 0
DeliversBy bound line old new status =
    IsValid old.content line → IsSomeAnd (task_of old.content line) (HasRoundsBy bound) → (HasRisen old.load_faults new.load_faults → ⊥)
    → ((port : Port) → HasRisen (old.port_faults port) (new.port_faults port) → ⊥)
    → (status ≡ Delivered) ⊎ (status ≡ Memory)

-- where the script is clean
abbrev pub DeliversIfClean : Line → Told → Told → Status → Type 0
DeliversIfClean line old new status = DeliversBy enough line old new status

-- where its text tells that few segments are lost
abbrev pub DeliversIfFew : Line → Told → Told → Status → Type 0
DeliversIfFew line old new status = DeliversBy few_enough line old new status

-- every answer to a command line delivers where its run is clean
abbrev pub CleanRunsDeliver : Type 0
CleanRunsDeliver = (line : Line) (old new : Told) (status : Status) → IsAnswer line old new status → DeliversIfClean line old new status

-- and where few segments are lost
abbrev pub FewRunsDeliver : Type 0
FewRunsDeliver = (line : Line) (old new : Told) (status : Status) → IsAnswer line old new status → DeliversIfFew line old new status

-- and where so many rounds are made as `tell_enough` tells
abbrev pub EnoughRunsDeliver : Type 0
EnoughRunsDeliver = (line : Line) (old new : Told) (status : Status) → IsAnswer line old new status → DeliversBy rounds_enough line old new status
