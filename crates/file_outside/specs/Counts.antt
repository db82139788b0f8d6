-- How many binds and puts of each port have failed.
use Rattle.std.specs.Prelude.{ℕ}
use Rattle.outside_kit.specs.declared.port.Port.{Port}
use Rattle.outside_kit.specs.declared.port.Port.TheVariants.{ReadByA, ReadByB, Log}

abbrev pub count_of : ℕ → ℕ → ℕ → Port → ℕ
count_of read_by_a read_by_b log ReadByA = read_by_a
count_of read_by_a read_by_b log ReadByB = read_by_b
count_of read_by_a read_by_b log Log = log
