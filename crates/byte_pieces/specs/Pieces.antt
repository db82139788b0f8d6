-- The representation: pieces of bytes that came side by side, in order.
use Rattle.std.specs.Prelude.{ℕ, ◌==◌, ◌+◌, ◌-◌, ◌<◌, ◌≤◌, max, nat_le, nat_lt, if◌then◌else◌, Option, Some, None, List, [], ◌∷◌, ◌++◌, suc, length, take, drop, replicate, map}
use Rattle.byte_pieces.specs.declared.piece.Piece.{Piece}

-- the position after a piece
abbrev pub end_of : Piece → ℕ
end_of p = p.at + length p.bytes

abbrev pub piece_len : Piece → ℕ
piece_len p = length p.bytes

-- the places of these pieces, from a position on
abbrev pub spread : ℕ → List Piece → List (Option ℕ)
spread from [] = []
spread from (p ∷ ps) = replicate (p.at - from) None ++ (map Some p.bytes ++ spread (end_of p) ps)

-- one after another, from a position on up to another, none of them empty
abbrev pub AreOrdered : ℕ → ℕ → List Piece → Type 0
AreOrdered from to [] = from ≤ to
AreOrdered from to (p ∷ ps) = (from ≤ p.at) × (0 < length p.bytes) × AreOrdered (end_of p) to ps

-- the bytes at this position as a piece, if there are any
abbrev pub piece_of : ℕ → List ℕ → List Piece
piece_of at [] = []
piece_of at (byte ∷ bytes) = record { at = at; bytes = byte ∷ bytes } ∷ []

-- a piece without its bytes below a position
abbrev pub cut_front : ℕ → Piece → Piece
cut_front to p = record { at = max p.at to; bytes = drop (to - p.at) p.bytes }

-- a piece without its bytes at or past a position
abbrev pub cut_end : ℕ → Piece → Piece
cut_end to p = record { at = p.at; bytes = take (to - p.at) p.bytes }

-- the bytes from a position on that stand in none of the pieces, as pieces
abbrev pub fresh : ℕ → List ℕ → List Piece → List Piece
fresh at bytes [] = piece_of at bytes
fresh at bytes (p ∷ ps) =
    piece_of at (take (p.at - at) bytes) ++ fresh (max at (end_of p)) (drop (end_of p - at) bytes) ps

-- how many pieces, from the first one on, begin before this position
abbrev pub begun_before : ℕ → List Piece → ℕ
begun_before at [] = 0
begun_before at (p ∷ ps) = if nat_lt p.at at then suc (begun_before at ps) else 0

-- a piece is put before the first one that doesn't begin before it
abbrev pub with_piece : Piece → List Piece → List Piece
with_piece q [] = q ∷ []
with_piece q (p ∷ ps) = if nat_lt p.at q.at then p ∷ with_piece q ps else q ∷ p ∷ ps

-- each of these pieces is put in so
abbrev pub with_pieces : List Piece → List Piece → List Piece
with_pieces [] ps = ps
with_pieces (q ∷ qs) ps = with_pieces qs (with_piece q ps)

-- what lies at and past a position
abbrev pub pieces_from : ℕ → List Piece → List Piece
pieces_from to [] = []
pieces_from to (p ∷ ps) =
    if nat_le (end_of p) to then pieces_from to ps
    else cut_front to p ∷ ps

-- what lies below a position
abbrev pub pieces_below : ℕ → List Piece → List Piece
pieces_below to [] = []
pieces_below to (p ∷ ps) =
    if nat_lt p.at to then cut_end to p ∷ pieces_below to ps
    else []

-- the last piece without its bytes at or past a position
abbrev pub last_cut : ℕ → List Piece → List Piece
last_cut to [] = []
last_cut to (p ∷ []) = cut_end to p ∷ []
last_cut to (p ∷ q ∷ ps) = p ∷ last_cut to (q ∷ ps)

-- the bytes of the pieces that lie side by side from this position on
abbrev pub side_by_side : ℕ → List Piece → List (List ℕ)
side_by_side at [] = []
side_by_side at (p ∷ ps) = if p.at == at then p.bytes ∷ side_by_side (end_of p) ps else []

-- each piece ends at or before a position
abbrev pub AreBounded : ℕ → List Piece → Type 0
AreBounded to [] = Unit {0}
AreBounded to (p ∷ ps) = (end_of p ≤ to) × AreBounded to ps

-- where the pieces that lie side by side from this position on end
abbrev pub side_by_side_end : ℕ → List Piece → ℕ
side_by_side_end at [] = at
side_by_side_end at (p ∷ ps) = if p.at == at then side_by_side_end (end_of p) ps else at

-- where the pieces that begin at this position or before it, and those side by side behind them, end; at least there
abbrev pub end_past : ℕ → List Piece → ℕ
end_past reached [] = reached
end_past reached (p ∷ ps) = if nat_lt reached p.at then reached else end_past (max reached (end_of p)) ps
