-- The words of the faults of a script and of their kinds.
use Rattle.std.specs.Prelude.{ℕ, List, ◌++◌, codes}
use Rattle.std.specs.Fmt.{decimal}
use Rattle.link_script.specs.declared.fault.ScriptFault.{ScriptFault}
use Rattle.link_script.specs.declared.fault.ScriptFault.TheVariants.{Line, Memory}
use Rattle.link_script.specs.declared.fault.ScriptKind.{ScriptKind}
use Rattle.link_script.specs.declared.fault.ScriptKind.TheVariants.{TooMany, Header, Word, Number, Order, Repeated, Missing}

abbrev pub kind_word : ScriptKind → List ℕ
kind_word TooMany = codes "too-many"
kind_word Header = codes "header"
kind_word Word = codes "word"
kind_word Number = codes "number"
kind_word Order = codes "order"
kind_word Repeated = codes "repeated"
kind_word Missing = codes "missing"

abbrev pub fault_words : ScriptFault → List ℕ
fault_words (Line line kind) = codes "line " ++ (decimal line ++ (codes ": " ++ kind_word kind))
fault_words Memory = codes "out of memory"
