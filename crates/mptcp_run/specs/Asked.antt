-- What of a command line is run over inputs that are loaded: the modes `run`, `serial`, `timed` and `replay`.
use Rattle.std.specs.Prelude.{ℕ, ◌≤◌, Bool, true, false, List, Option, Some, None, option_and_then, if◌then◌else◌}
use Rattle.run_words.specs.Lines.{Line, Work, run, serial, timed, replay, bench, line_of}

abbrev pub is_run : Work → Bool
is_run (serial rounds) = true
is_run (timed rounds) = true
is_run (replay log) = true
is_run (run rounds) = true
is_run (bench rounds number) = false

-- a line of one of these modes
abbrev pub if_run : Line → Option Line
if_run line = if is_run line.work then Some line else None

-- what the words behind the program's name ask for; None where they break the line form, or name another mode
unfoldable pub asked_in : List (List ℕ) → Option Line
asked_in words = option_and_then if_run (line_of words)

-- a run of rounds is asked for one round at least, and the number of a made input is at most 256
abbrev pub AsksInRange : Work → Type 0
AsksInRange (serial most) = 1 ≤ most
AsksInRange (timed most) = 1 ≤ most
AsksInRange (run most) = 1 ≤ most
AsksInRange (replay log) = Unit {0}
AsksInRange (bench most number) = number ≤ 256
