-- How the judge ends, and what it says then.
use Rattle.std.specs.Prelude.{ℕ, List, [], ◌++◌, codes}
use Rattle.std.specs.Fmt.{decimal}
use Rattle.capture_verdict.specs.declared.ending.Ending.{Ending}
use Rattle.capture_verdict.specs.declared.ending.Ending.TheVariants as ending
use Rattle.judge_call.specs.declared.status.Status.{Status}
use Rattle.judge_call.specs.declared.status.Status.TheVariants.{Kept, Broken, NoConnection, Usage, Load, TooLong, Put, Memory, Block}

-- the exit status
abbrev pub code_of : Status → ℕ
code_of Kept = 0
code_of Usage = 4
code_of Load = 6
code_of Put = 7
code_of TooLong = 8
code_of Memory = 9
code_of Broken = 14
code_of NoConnection = 15
code_of (Block octet) = 16

-- the line on standard error, without its end
abbrev pub fault_line : Status → List ℕ
fault_line Kept = []
fault_line Broken = []
fault_line NoConnection = []
fault_line Usage = codes "mptcp_judge: usage: CAPTURE [--at a|b] [--streams PREFIX] [--no-tcp-sum]"
fault_line Load = codes "mptcp_judge: cannot read capture"
fault_line Put = codes "mptcp_judge: cannot write streams"
fault_line TooLong = codes "mptcp_judge: too big"
fault_line Memory = codes "mptcp_judge: out of memory"
fault_line (Block octet) = codes "mptcp_judge: cannot read capture: block at octet " ++ decimal octet

-- what was judged ends it so
abbrev pub status_of : Ending → Status
status_of ending.Kept = Kept
status_of ending.Broken = Broken
status_of ending.NoConnection = NoConnection
