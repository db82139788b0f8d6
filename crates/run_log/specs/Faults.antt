-- The words of the faults of a log.
use Rattle.std.specs.Prelude.{ℕ, List, ◌++◌, codes}
use Rattle.std.specs.Fmt.{decimal}
use Rattle.run_log.specs.declared.fault.LogFault.{LogFault}
use Rattle.run_log.specs.declared.fault.LogFault.TheVariants.{Line, Memory}

abbrev pub fault_words : LogFault → List ℕ
fault_words (Line line) = codes "line " ++ decimal line
fault_words Memory = codes "out of memory"
