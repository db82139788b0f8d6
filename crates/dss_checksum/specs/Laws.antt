-- The laws of the checksum: one bit turned always shows.
use Rattle.std.specs.Prelude.{◌≢◌, ℕ, ◌<◌, List, length, ◌++◌}
use Rattle.seq_units.specs.declared.mapping.Mapping.{Mapping}
use Rattle.ones_sum.specs.Words.{with_bit_turned}
use Rattle.dss_checksum.specs.Checksum.{pseudo_header, checksum_of, dss_checksum}

-- one bit of the data
abbrev pub TurnedBitShows : Type 0
TurnedBitShows = (mapping : Mapping) (octets : List ℕ) (i k : ℕ) → i < length octets → k < 8
    → dss_checksum mapping (with_bit_turned octets i k) ≢ dss_checksum mapping octets

-- one bit of the pseudo-header
abbrev pub TurnedHeaderBitShows : Type 0
TurnedHeaderBitShows = (mapping : Mapping) (octets : List ℕ) (i k : ℕ) → i < 16 → k < 8
    → checksum_of (with_bit_turned (pseudo_header mapping) i k ++ octets) ≢ dss_checksum mapping octets
