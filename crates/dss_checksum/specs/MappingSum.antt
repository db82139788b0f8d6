-- The sum over a mapping and as much of its data as was added: how many octets these were, and the plain sum of the
-- words of the pseudo-header and these octets.
use Rattle.std.specs.Prelude.{ℕ, List, length}
use Rattle.seq_units.specs.declared.mapping.Mapping.{Mapping}
use Rattle.ones_sum.specs.Words.{word_sum}
use Rattle.dss_checksum.specs.Checksum.{summed_octets}

pub record MappingSum : Type 0 where
  pub mapping : Mapping
  pub count : ℕ
  pub total : ℕ

-- the sum over the mapping and these octets of its data
abbrev pub sum_of : Mapping → List ℕ → MappingSum
sum_of mapping octets = record { mapping = mapping; count = length octets; total = word_sum (summed_octets mapping octets) }
