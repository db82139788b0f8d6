-- The command of `clap` that takes the words apart, and what is made of the values that it found.
use Rattle.std.specs.Prelude.{true, Option, Some, None, codes, if◌then◌else◌}
use Rattle.clap.specs.Words.{App, Rule, Text, new_app, new_rule, with_rule}
use Rattle.clap.specs.declared.error.kind.ErrorKind.{ErrorKind}
use Rattle.clap.specs.declared.error.kind.ErrorKind.TheVariants.{OutOfMemory}
use Rattle.run_words.specs.Lines.{Line, Names, Work, ◌>>=◌, is_given, work_in}
use Rattle.run_words.specs.declared.fault.WordsFault.{WordsFault}
use Rattle.run_words.specs.declared.fault.WordsFault.TheVariants.{Usage, Memory}

-- ---- the command

-- an option that is written `--ID`
abbrev pub option_rule : Text → Rule
option_rule id = record (new_rule id) { long = Some id }

-- the command with an option more
abbrev pub with_option : Text → App → App
with_option id form = with_rule form (option_rule id)

-- the command with a name more
abbrev pub with_name : Text → App → App
with_name id form = with_rule form (new_rule id)

-- the options of the line form
abbrev pub with_options : App → App
with_options form = with_option (codes "number") (with_option (codes "order") (with_option (codes "rounds") (with_option (codes "mode") form)))

-- the names of the script and of both files
abbrev pub with_inputs : App → App
with_inputs form = with_name (codes "file_b") (with_name (codes "file_a") (with_name (codes "script") form))

-- the names of what B reads and of what A reads
abbrev pub with_outputs : App → App
with_outputs form = with_name (codes "read_by_a") (with_name (codes "read_by_b") form)

-- a command without rules: the words don't begin with the program's name, and there is no flag for help
abbrev pub plain_form : App
plain_form = record (new_app (codes "mptcp_sim")) {
  top = record (new_app (codes "mptcp_sim")).top { no_binary_name = true; disable_help_flag = true };
}

-- the command with all options and names
abbrev pub line_form : App
line_form = with_outputs (with_inputs (with_options plain_form))

-- a fault of the command is want of memory, or else one of the line form
abbrev pub fault_by : ErrorKind → WordsFault
fault_by OutOfMemory = Memory
fault_by kind = Usage

-- ---- the values, by id

-- a name that isn't empty
abbrev pub given_name : Option Text → Option Text
given_name None = None
given_name (Some word) = if is_given word then Some word else None

-- five names, of which none is empty
abbrev pub names_by : (Text → Option Text) → Option Names
names_by value = do
  script ← given_name (value (codes "script"))
  file_a ← given_name (value (codes "file_a"))
  file_b ← given_name (value (codes "file_b"))
  read_by_b ← given_name (value (codes "read_by_b"))
  read_by_a ← given_name (value (codes "read_by_a"))
  Some (record { script = script; file_a = file_a; file_b = file_b; read_by_b = read_by_b; read_by_a = read_by_a })

-- the work, by the values of the four options
abbrev pub work_by : (Text → Option Text) → Option Work
work_by value = value (codes "mode") >>= λ mode. work_in mode (value (codes "rounds")) (value (codes "order")) (value (codes "number"))

-- the work and the names
abbrev pub line_by : (Text → Option Text) → Option Line
line_by value = do
  work ← work_by value
  names ← names_by value
  Some (record { work = work; names = names })
