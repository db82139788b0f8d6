-- What the checksum of a segment covers between two IP addresses of either version.
use Rattle.std.specs.Prelude.{◌≡◌, ℕ, ◌%◌, ◌≤◌, List, [], ◌∷◌, ◌++◌, length}
use Rattle.std.specs.Int.{w32, to_be_bytes}
use Rattle.ones_sum.specs.Words.{word_sum, folded}
use Rattle.segment_wire.specs.declared.head.Addresses.{Addresses}
use Rattle.segment_wire.specs.Checksum.{covered_sum}

-- The addresses, how many octets the segment has in four octets, three zeros, protocol 6 (RFC 8200, section 8.1).
abbrev pub pseudo_header_between : List ℕ → List ℕ → ℕ → List ℕ
pseudo_header_between source destination len = source ++ (destination ++ (to_be_bytes w32 len ++ (0 ∷ 0 ∷ 0 ∷ 6 ∷ [])))

-- the one's complement sum of the pseudo-header alone
unfoldable pub pseudo_sum_between : List ℕ → List ℕ → ℕ → ℕ
pseudo_sum_between source destination len = folded (word_sum (pseudo_header_between source destination len))

-- the one's complement sum of pseudo-header and segment
unfoldable pub covered_sum_between : List ℕ → List ℕ → List ℕ → ℕ
covered_sum_between source destination segment =
    folded (word_sum (pseudo_header_between source destination (length segment) ++ segment))

-- an address of IPv4 or IPv6 in octets
pub record IsAddress (octets : List ℕ) : Type 0 where
  pub even : length octets % 2 ≡ 0
  pub few : length octets ≤ 16

-- Between IPv4 addresses the sum is that with the pseudo-header of IPv4, which tells the length in two octets.
abbrev pub SumsOfIpv4AreAlike : Type 0
SumsOfIpv4AreAlike = (addresses : Addresses) (segment : List ℕ) → length addresses.source ≡ 4 → length addresses.destination ≡ 4
    → length segment ≤ 65535
    → covered_sum_between addresses.source addresses.destination segment ≡ covered_sum addresses segment
