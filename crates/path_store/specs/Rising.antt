-- Pieces of which none lies before one that stands before it.
use Rattle.std.specs.Prelude.{◌≤◌, List, [], ◌∷◌}
use Rattle.std.specs.List.{AllByRecursion}
use Rattle.path_store.specs.declared.granted_piece.GrantedPiece.{GrantedPiece}

-- none of these pieces begins or ends before this one
abbrev pub IsLowest : GrantedPiece → List GrantedPiece → Type 0
IsLowest piece pieces = AllByRecursion (λ other. (piece.from ≤ other.from) × (piece.to ≤ other.to)) pieces

-- none of these pieces begins or ends before one that stands before it
abbrev pub Rise : List GrantedPiece → Type 0
Rise [] = Unit {0}
Rise (piece ∷ pieces) = IsLowest piece pieces × Rise pieces
