-- The words of the faults of an outside.
use Rattle.std.specs.Prelude.{ℕ, List, codes}
use Rattle.outside_kit.specs.declared.outside.LoadFault.{LoadFault}
use Rattle.outside_kit.specs.declared.outside.LoadFault.TheVariants as load
use Rattle.outside_kit.specs.declared.outside.PutFault.{PutFault}
use Rattle.outside_kit.specs.declared.outside.PutFault.TheVariants as put

abbrev pub load_words : LoadFault → List ℕ
load_words load.Failed = codes "the device failed"
load_words load.TooLong = codes "the content is longer than the limit"
load_words load.Memory = codes "out of memory"

abbrev pub put_words : PutFault → List ℕ
put_words put.Failed = codes "the device failed"
put_words put.Memory = codes "out of memory"
