-- The parts of bytes that stand in no piece, along the pieces.
use Rattle.std.proofs.Common.{◌≡◌, ℕ, ◌+◌, ◌-◌, ◌<◌, ◌≤◌, max, min, List, ◌∷◌, ◌++◌, length, take, drop, get_or, sym, ap, ◌∙◌, append_assoc, arith}
use Rattle.std.specs.Prelude.{slice_range}
use Rattle.std.proofs.lemmas.List.{at_drop_more, at_drop_all}
use Rattle.byte_pieces.specs.declared.piece.Piece.{Piece}
use Rattle.byte_pieces.specs.Pieces.{end_of, piece_of, fresh}
use Rattle.byte_pieces.proofs.Filling.{drop-min, take-min}

-- the first ones, as they are cut off
front-is : (gap room : ℕ) (rest own : List ℕ) → gap ≡ min (length rest) room → own ≡ slice_range rest 0 gap → own ≡ take room rest
front-is gap room rest own e f =
    let none : gap - 0 ≡ gap = omega arith in
    f ∙ ap (λ n. take n rest) none ∙ take-min room gap rest (omega (arith, e))

-- past a piece
pub fresh-step : (next gap known later index : ℕ) (rest own left : List ℕ) (parts : List Piece) (p : Piece) (ps : List Piece) → index < length ps → p ≡ get_or ps index p
    → gap ≡ min (length rest) (p.at - next) → known ≡ min (length rest) (end_of p - next) → own ≡ slice_range rest 0 gap → left ≡ drop known rest
    → later ≡ max next (end_of p)
    → (parts ++ piece_of next own) ++ fresh later left (drop (index + 1) ps) ≡ parts ++ fresh next rest (drop index ps)
fresh-step next gap known later index rest own left parts p ps within is e f g h k =
    let more = at_drop_more (λ qs. fresh next rest qs) ps index p within in
    let here = ap (λ (q : Piece). fresh next rest (q ∷ drop (index + 1) ps)) (sym is) in
    let cut : left ≡ drop (end_of p - next) rest = h ∙ drop-min (end_of p - next) known rest (omega (arith, f)) in
    rw (front-is gap (p.at - next) rest own e g, cut, k)
    (append_assoc parts (piece_of next (take (p.at - next) rest)) (fresh (max next (end_of p)) (drop (end_of p - next) rest) (drop (index + 1) ps))
    ∙ ap (λ (qs : List Piece). parts ++ qs) (sym (more ∙ here)))

-- past the last one
pub fresh-last : (next index : ℕ) (rest : List ℕ) (parts ps : List Piece) → length ps ≤ index
    → parts ++ piece_of next rest ≡ parts ++ fresh next rest (drop index ps)
fresh-last next index rest parts ps past = ap (λ (qs : List Piece). parts ++ qs) (sym (at_drop_all (λ qs. fresh next rest qs) ps index past))
