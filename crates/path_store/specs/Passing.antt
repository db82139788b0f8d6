-- The octets in order at a receive edge that a mapping lets pass (RFC 8684, section 3.3.1).
use Rattle.std.specs.Prelude.{ℕ, ◌+◌, ◌-◌, ◌^◌, min, Bool, ◌&&◌, ◌==◌, nat_lt, nat_le, if◌then◌else◌, Option, Some, None, List, length, take}
use Rattle.dss_checksum.specs.Checksum.{dss_checksum}
use Rattle.dss_mapping.specs.declared.kept.KeptMapping.{KeptMapping}
use Rattle.dss_mapping.specs.Mappings.{octets_of}
use Rattle.path_store.specs.declared.in_order.InOrder.{InOrder}

-- bytes that the edge can pass, and the place of the first one
pub record Piece : Type 0 where
  pub place : ℕ
  pub octets : List ℕ

-- a piece without bytes is none
abbrev pub some_piece : Piece → Option Piece
some_piece piece = if nat_lt 0 (length piece.octets) then Some piece else None

-- the octets that were found to pass, the first ones in order, as a piece at the first one's place
abbrev pub piece_of_order : InOrder → List ℕ → Piece
piece_of_order found octets = record { place = found.place; octets = take found.count octets }

-- without checksums: what is in order up to the mapping's end, with places below 2^62
abbrev pub count_in : ℕ → KeptMapping → ℕ
count_in edge kept = min (kept.pos + octets_of kept - edge) (2 ^ 62 - (kept.place + (edge - kept.pos)))

-- the octets in order at the edge that this mapping names
abbrev pub named_piece : KeptMapping → ℕ → List ℕ → Piece
named_piece kept edge octets = record { place = kept.place + (edge - kept.pos); octets = take (count_in edge kept) octets }

-- with checksums: the whole mapping is there, of so many octets in order
abbrev pub is_there : KeptMapping → ℕ → ℕ → Bool
is_there kept edge held =
    kept.pos == edge && (nat_lt 0 (octets_of kept) && (nat_le (octets_of kept) held && nat_le (kept.place + octets_of kept) (2 ^ 62)))

-- the mapping's checksum is that of its octets, with its whole length
abbrev pub has_its_sum : KeptMapping → List ℕ → Bool
has_its_sum kept octets = dss_checksum kept.mapping (take (octets_of kept) octets) == kept.mapping.checksum

-- the octets that this mapping lets pass: with checksums all of its own, once they are there and right, or none
abbrev pub passing_by : Bool → KeptMapping → ℕ → List ℕ → Option Piece
passing_by checksums kept edge octets =
    if checksums then (if is_there kept edge (length octets) && has_its_sum kept octets then some_piece (named_piece kept edge octets) else None)
    else some_piece (named_piece kept edge octets)
