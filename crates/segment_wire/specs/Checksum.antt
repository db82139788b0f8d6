-- What the checksum of a segment covers, and when it is right (RFC 9293, section 3.1; RFC 1071).
use Rattle.std.specs.Prelude.{ℕ, ◌++◌, List, ◌∷◌, length, Bool, ◌==◌}
use Rattle.std.specs.Int.{w16, to_be_bytes}
use Rattle.ones_sum.specs.Words.{word_sum, folded, complement}
use Rattle.segment_wire.specs.declared.head.Addresses.{Addresses}

-- the addresses, a zero octet, protocol 6, and how many octets the segment has
abbrev pub pseudo_header : Addresses → ℕ → List ℕ
pseudo_header addresses len = addresses.source ++ (addresses.destination ++ (0 ∷ 6 ∷ to_be_bytes w16 len))

-- the one's complement sum of pseudo-header and segment
unfoldable pub covered_sum : Addresses → List ℕ → ℕ
covered_sum addresses segment = folded (word_sum (pseudo_header addresses (length segment) ++ segment))

-- The checksum of a segment whose checksum field is 0.
abbrev pub checksum_of : Addresses → List ℕ → ℕ
checksum_of addresses segment = complement (covered_sum addresses segment)

-- The sum over all, the checksum field included, is ffff. Where the complement is 0000, the field may be 0000 or ffff.
abbrev pub is_checksum_right : Addresses → List ℕ → Bool
is_checksum_right addresses segment = covered_sum addresses segment == 65535
