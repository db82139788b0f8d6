-- What the words of a command line ask for.
use Rattle.std.specs.Prelude.{◌≡◌, ◌≤◌, true, ℕ, ◌==◌, Bool, ◌&&◌, not, List, [], ◌∷◌, length, Option, Some, None, option_map, if◌then◌else◌, codes}
use Rattle.std.specs.Str.{bytes_eq}
use Rattle.run_words.specs.Parts.{Word, Choice, mode_option, rounds_option, order_option, number_option, label, Part, option, name, parts_of}
use Rattle.run_words.specs.Numbers.{number_within}
use Rattle.run_words.specs.declared.command_line.CommandLine.{CommandLine}
use Rattle.run_words.specs.declared.command_line.Mode.{Mode}
use Rattle.run_words.specs.declared.command_line.Mode.TheVariants as mode_is

-- the mode that is asked for: the most rounds, the name of the log, the number of the made input
pub data Work : Type 0 where
  run : ℕ → Work
  serial : ℕ → Work
  timed : ℕ → Work
  replay : Word → Work
  bench : ℕ → ℕ → Work

-- the names of the script, of what A and B send, and of what B and A read
pub record Names : Type 0 where
  pub script : Word
  pub file_a : Word
  pub file_b : Word
  pub read_by_b : Word
  pub read_by_a : Word

-- the work, and the names
pub record Line : Type 0 where
  pub work : Work
  pub names : Names

infixl 10 ◌>>=◌
-- the next step goes on with what this one gave; without a value there is none
abbrev pub ◌>>=◌ : {A B : Type 0} → Option A → (A → Option B) → Option B
(Some x) >>= f = f x
None >>= f = None

-- ---- the parts

-- the values that the parts give an option, in order
abbrev pub values_of : Choice → List Part → List Word
values_of choice [] = []
values_of choice (option other value ∷ rest) =
    if bytes_eq (label other) (label choice) then value ∷ values_of choice rest else values_of choice rest
values_of choice (name word ∷ rest) = values_of choice rest

-- the names, in order
abbrev pub names_of : List Part → List Word
names_of [] = []
names_of (option choice value ∷ rest) = names_of rest
names_of (name word ∷ rest) = word ∷ names_of rest

-- an option stands at most once
abbrev pub at_most_once : List Word → Option (Option Word)
at_most_once [] = Some None
at_most_once (value ∷ []) = Some (Some value)
at_most_once values = None

-- ---- the values

-- a word that isn't empty
abbrev pub is_given : Word → Bool
is_given word = not (length word == 0)

-- five names, of which none is empty
abbrev pub names_in : List Word → Option Names
names_in (script ∷ file_a ∷ file_b ∷ read_by_b ∷ read_by_a ∷ []) =
    if is_given script && (is_given file_a && (is_given file_b && (is_given read_by_b && is_given read_by_a)))
    then Some (record { script = script; file_a = file_a; file_b = file_b; read_by_b = read_by_b; read_by_a = read_by_a })
    else None
names_in names = None

-- the most rounds: 1 to 65,536, or 4,096 where nothing is said
abbrev pub rounds_in : Option Word → Option ℕ
rounds_in None = Some 4096
rounds_in (Some word) = number_within 1 65536 word

-- `run`, `serial` and `timed`, which have neither a log nor a number
abbrev pub plain_work : Word → Option Word → Option Work
plain_work word rounds =
    if bytes_eq word (codes "run") then option_map run (rounds_in rounds)
    else (if bytes_eq word (codes "serial") then option_map serial (rounds_in rounds)
    else (if bytes_eq word (codes "timed") then option_map timed (rounds_in rounds) else None))

-- `replay`, which has a log
abbrev pub replay_work : Word → Word → Option Work
replay_work word log = if bytes_eq word (codes "replay") && is_given log then Some (replay log) else None

-- `bench`, which has a number, 1 to 256
abbrev pub bench_work : Word → Option Word → Word → Option Work
bench_work word rounds number =
    if bytes_eq word (codes "bench") then (do
      most ← rounds_in rounds
      input ← number_within 1 256 number
      Some (bench most input))
    else None

-- the work, by the values of `--mode`, `--rounds`, `--order` and `--number`
abbrev pub work_in : Word → Option Word → Option Word → Option Word → Option Work
work_in word rounds None None = plain_work word rounds
work_in word None (Some log) None = replay_work word log
work_in word rounds None (Some number) = bench_work word rounds number
work_in word rounds log number = None

-- ---- the line

-- each option at most once, `--mode` once, and five names
unfoldable pub line_of_parts : List Part → Option Line
line_of_parts parts = do
  word ← at_most_once (values_of mode_option parts)
  most ← at_most_once (values_of rounds_option parts)
  log ← at_most_once (values_of order_option parts)
  input ← at_most_once (values_of number_option parts)
  names ← names_in (names_of parts)
  given ← word
  work ← work_in given most log input
  Some (record { work = work; names = names })

-- what the words behind the program's name ask for, or None where they break the line form
unfoldable pub line_of : List Word → Option Line
line_of words = parts_of None words >>= line_of_parts

-- the most rounds are 1 to 65,536, the number of a made input is 1 to 256, and a log has a name
abbrev pub HasRanges : Work → Type 0
HasRanges (run rounds) = (1 ≤ rounds) × (rounds ≤ 65536)
HasRanges (serial rounds) = (1 ≤ rounds) × (rounds ≤ 65536)
HasRanges (timed rounds) = (1 ≤ rounds) × (rounds ≤ 65536)
HasRanges (replay log) = is_given log ≡ true
HasRanges (bench rounds number) = (1 ≤ rounds) × (rounds ≤ 65536) × (1 ≤ number) × (number ≤ 256)

-- ---- what was read

-- the mode of the code as work
abbrev pub shown_work : Mode → Work
shown_work (mode_is.Run rounds) = run rounds
shown_work (mode_is.Serial rounds) = serial rounds
shown_work (mode_is.Timed rounds) = timed rounds
shown_work (mode_is.Replay order) = replay order.now
shown_work (mode_is.Bench rounds number) = bench rounds number

-- a command line of the code by its octets
abbrev pub as_line : CommandLine → Line
as_line line = record {
  work = shown_work line.mode;
  names = record {
    script = line.script.now;
    file_a = line.file_a.now;
    file_b = line.file_b.now;
    read_by_b = line.read_by_b.now;
    read_by_a = line.read_by_a.now;
  };
}
