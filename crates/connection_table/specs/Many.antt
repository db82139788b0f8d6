-- How a run of many connections is told.
use Rattle.std.specs.Prelude.{ℕ, List, [], ◌++◌, codes}
use Rattle.std.specs.Fmt.{decimal}
use Rattle.connection_table.specs.declared.many.Many.{Many}
use Rattle.connection_table.specs.declared.many.Many.TheVariants as ends

-- the exit status
abbrev pub code_of : Many → ℕ
code_of ends.Done = 0
code_of ends.Usage = 4
code_of (ends.Script entry line kind) = 5
code_of (ends.Load line) = 6
code_of ends.Put = 7
code_of (ends.TooLong line) = 8
code_of ends.Memory = 9
code_of (ends.List line) = 11
code_of (ends.SameToken line holder) = 13

-- the line on standard error, without its end
abbrev pub fault_line : Many → List ℕ
fault_line ends.Done = []
fault_line many = codes "mptcp_sim: many " ++ decimal (code_of many)
