-- The header of an IPv4 packet without options (RFC 791, section 3.1).
use Rattle.std.specs.Prelude.{◌≡◌, ℕ, ◌+◌, ◌≤◌, List, [], ◌∷◌, ◌++◌, length}
use Rattle.std.specs.Int.{w16, to_be_bytes}
use Rattle.ones_sum.specs.Words.{word_sum, folded, complement}

-- Version 4 and five words of header, no type of service; the length of all; identification 0, not to be fragmented;
-- a time to live of 64, protocol 6 (TCP); this checksum; both addresses.
unfoldable pub header_with : ℕ → List ℕ → List ℕ → ℕ → List ℕ
header_with checksum source destination segment_len =
    (0x45 ∷ 0 ∷ [])
    ++ (to_be_bytes w16 (segment_len + 20)
    ++ ((0 ∷ 0 ∷ 0x40 ∷ 0 ∷ 64 ∷ 6 ∷ [])
    ++ (to_be_bytes w16 checksum
    ++ (source ++ destination))))

-- The checksum is the complement of the one's complement sum of the header with a checksum of 0 (RFC 1071).
abbrev pub header_text : List ℕ → List ℕ → ℕ → List ℕ
header_text source destination segment_len =
    let checksum = complement (folded (word_sum (header_with 0 source destination segment_len))) in
    header_with checksum source destination segment_len

-- The sum over a whole header is ffff, as who receives it checks.
abbrev pub HeadersSumUp : Type 0
HeadersSumUp = (source destination : List ℕ) (segment_len : ℕ) → length source ≡ 4 → length destination ≡ 4 → segment_len ≤ 65515
    → folded (word_sum (header_text source destination segment_len)) ≡ 65535
