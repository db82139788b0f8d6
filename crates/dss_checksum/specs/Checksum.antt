-- The checksum of a mapping and its data (RFC 8684, section 3.3.1, figure 10), over lists of octets.
use Rattle.std.specs.Prelude.{ℕ, List, [], ◌∷◌, ◌++◌}
use Rattle.std.specs.Int.{w16, w32, w64, to_be_bytes}
use Rattle.seq_units.specs.declared.mapping.Mapping.{Mapping}
use Rattle.ones_sum.specs.Words.{word_sum, folded, complement}

-- The pseudo-header: the data sequence number with 64 bits, the relative subflow number, the data-level length, and 16
-- bits of zero in the place of the checksum.
abbrev pub pseudo_header : Mapping → List ℕ
pseudo_header mapping =
    to_be_bytes w64 mapping.number ++ (to_be_bytes w32 mapping.relative ++ (to_be_bytes w16 mapping.length ++ (0 ∷ 0 ∷ [])))

-- what the checksum is of: the pseudo-header, and then the data
abbrev pub summed_octets : Mapping → List ℕ → List ℕ
summed_octets mapping octets = pseudo_header mapping ++ octets

-- the complement of the sum in 16 bits
abbrev pub checksum_of : List ℕ → ℕ
checksum_of octets = complement (folded (word_sum octets))

-- the checksum of a mapping and its data
abbrev pub dss_checksum : Mapping → List ℕ → ℕ
dss_checksum mapping octets = checksum_of (summed_octets mapping octets)
