-- Pieces of a stream that were granted to an end, in the order in which they were granted.
use Rattle.std.specs.Prelude.{ℕ, ◌+◌, ◌-◌, ◌^◌, max, min, Bool, true, false, ◌&&◌, ◌==◌, nat_lt, nat_le, Option, Some, None, List, [], ◌∷◌, find}
use Rattle.path_store.specs.declared.granted_piece.GrantedPiece.{GrantedPiece}

-- ---- what the peer acknowledged

-- none is left of those that aren't acknowledged whole
abbrev pub is_all_acknowledged : List GrantedPiece → Bool
is_all_acknowledged [] = true
is_all_acknowledged (piece ∷ pieces) = false

-- a place of the piece wasn't acknowledged before, and is now
abbrev pub is_newly_heard : ℕ → ℕ → GrantedPiece → Bool
is_newly_heard before next piece = nat_lt (max piece.from before) next

-- a piece that isn't acknowledged whole
abbrev pub is_open : ℕ → GrantedPiece → Bool
is_open heard piece = nat_lt heard piece.to

-- the place behind the last byte that was granted and isn't acknowledged
abbrev pub granted_to : List GrantedPiece → ℕ
granted_to [] = 0
granted_to (piece ∷ pieces) = max piece.to (granted_to pieces)

-- ---- positions and places

-- the position behind a piece
abbrev pub behind : GrantedPiece → ℕ
behind piece = piece.position + (piece.to - piece.from)

-- position and place of a piece are those behind the one before it
abbrev pub follows : GrantedPiece → GrantedPiece → Bool
follows before piece = piece.position == behind before && piece.from == before.to

-- each piece follows the one before it, and the last one stands right before this position
abbrev pub rises_from : GrantedPiece → List GrantedPiece → ℕ → Bool
rises_from before [] end = behind before == end
rises_from before (piece ∷ pieces) end = follows before piece && rises_from piece pieces end

-- from the first byte on that isn't acknowledged, places rise with positions up to the end of the record
abbrev pub is_tail : List GrantedPiece → ℕ → Bool
is_tail [] end = true
is_tail (piece ∷ pieces) end = rises_from piece pieces end

-- the place is one of the piece's
abbrev pub has_place : ℕ → GrantedPiece → Bool
has_place place piece = nat_le piece.from place && nat_lt place piece.to

-- the position of a place in its piece, or `next` without a piece; those from 2^64 - 1 on count as one
abbrev pub position_in : ℕ → ℕ → Option GrantedPiece → ℕ
position_in next place None = next
position_in next place (Some piece) = min (piece.position + (place - piece.from)) (2 ^ 64 - 1)

-- the position of a place; the next position, where the record doesn't have it
abbrev pub position_of : ℕ → ℕ → List GrantedPiece → ℕ
position_of next place pieces = position_in next place (find (has_place place) pieces)
