-- The words of the faults of a pipe.
use Rattle.std.specs.Prelude.{ℕ, List, codes}
use Rattle.pipe_model.specs.declared.pipe.PipeFault.{PipeFault}
use Rattle.pipe_model.specs.declared.pipe.PipeFault.TheVariants.{Closed, Told, Past, NotAll, Memory}

abbrev pub fault_words : PipeFault → List ℕ
fault_words Closed = codes "the writer has closed the stream"
fault_words Told = codes "the reader was told the end"
fault_words Past = codes "there are not so many bytes"
fault_words NotAll = codes "the stream has not ended at the reader"
fault_words Memory = codes "out of memory"
