-- The exit status of each end of a run, and the line that tells it.
use Rattle.std.specs.Prelude.{ℕ, List, [], ◌++◌, codes}
use Rattle.std.specs.Fmt.{decimal}
use Rattle.link_script.specs.Faults.{kind_word}
use Rattle.outside_kit.specs.declared.port.Port.{Port}
use Rattle.outside_kit.specs.declared.port.Port.TheVariants as port
use Rattle.run_outside.specs.declared.status.Named.{Named}
use Rattle.run_outside.specs.declared.status.Named.TheVariants as input
use Rattle.run_outside.specs.declared.status.Status.{Status}
use Rattle.run_outside.specs.declared.status.Status.TheVariants.{Delivered, Rounds, NoPath, Aborted, Usage, Script, Load, Put, TooLong, Memory, Log}

abbrev pub code_of : Status → ℕ
code_of Delivered = 0
code_of Rounds = 1
code_of NoPath = 2
code_of (Aborted reader) = 3
code_of Usage = 4
code_of (Script line kind) = 5
code_of (Load input) = 6
code_of (Put port) = 7
code_of (TooLong input) = 8
code_of Memory = 9
code_of (Log line) = 12

abbrev pub input_word : Named → List ℕ
input_word input.Script = codes "script"
input_word input.FileA = codes "file-a"
input_word input.FileB = codes "file-b"
input_word input.Order = codes "order"

abbrev pub port_word : Port → List ℕ
port_word port.ReadByA = codes "read-by-a"
port_word port.ReadByB = codes "read-by-b"
port_word port.Log = codes "log"

-- the form of the command line
abbrev pub usage : List ℕ
usage = codes "--mode run|serial|timed|replay|bench SCRIPT FILE_A FILE_B READ_BY_B READ_BY_A [--rounds N] [--order LOG] [--number N]"

-- a run that came to its own end tells nothing
abbrev pub fault_line : Status → List ℕ
fault_line Delivered = []
fault_line Rounds = []
fault_line NoPath = []
fault_line (Aborted reader) = []
fault_line Usage = codes "mptcp_sim: usage: " ++ usage
fault_line (Script line kind) = codes "mptcp_sim: script line " ++ (decimal line ++ (codes ": " ++ kind_word kind))
fault_line (Load input) = codes "mptcp_sim: cannot read " ++ input_word input
fault_line (Put port) = codes "mptcp_sim: cannot write " ++ port_word port
fault_line (TooLong input) = codes "mptcp_sim: too long: " ++ input_word input
fault_line Memory = codes "mptcp_sim: out of memory"
fault_line (Log line) = codes "mptcp_sim: log line " ++ decimal line
