-- How many bytes stand where none is kept, counted along the pieces.
use Rattle.std.proofs.Common.{◌≡◌, ℕ, ◌+◌, ◌-◌, ◌≤◌, ◌<◌, max, min, List, [], ◌∷◌, length, take, drop, get_or, refl, sym, ap, ◌∙◌, arith}
use Rattle.std.specs.List.{sum_by}
use Rattle.std.proofs.lemmas.List.{length-take, at_drop_more, at_drop_all}
use Rattle.std.proofs.lemmas.List.Sums.{sum_by-append}
use Rattle.byte_pieces.specs.declared.piece.Piece.{Piece}
use Rattle.byte_pieces.specs.Pieces.{end_of, piece_len, piece_of, fresh}
use Rattle.byte_pieces.proofs.Filling.{drop-min, take-rest, sum-piece_of, fresh-nothing}

abbrev pub count : ℕ → List ℕ → List Piece → ℕ
count at bytes ps = sum_by piece_len (fresh at bytes ps)

count-front : (next gap : ℕ) (rest : List ℕ) (p : Piece) (ps : List Piece) → gap ≡ min (length rest) (p.at - next)
    → count next rest (p ∷ ps) ≡ gap + count (max next (end_of p)) (drop (end_of p - next) rest) ps
count-front next gap rest p ps e =
    let one = sum_by-append piece_len (piece_of next (take (p.at - next) rest)) (fresh (max next (end_of p)) (drop (end_of p - next) rest) ps) in
    omega (arith, one, sum-piece_of next (take (p.at - next) rest), length-take (p.at - next) rest, e)

-- past a piece
pub count-step : (total next gap known later index : ℕ) (rest left : List ℕ) (p : Piece) (ps : List Piece) → index < length ps → p ≡ get_or ps index p
    → gap ≡ min (length rest) (p.at - next) → known ≡ min (length rest) (end_of p - next) → left ≡ take (length rest - known) (drop known rest)
    → later ≡ max next (end_of p)
    → (total + gap) + count later left (drop (index + 1) ps) ≡ total + count next rest (drop index ps)
count-step total next gap known later index rest left p ps within is e f g h =
    let more = at_drop_more (λ qs. count next rest qs) ps index p within in
    let own = ap (λ (q : Piece). count next rest (q ∷ drop (index + 1) ps)) (sym is) in
    let cut : left ≡ drop (end_of p - next) rest = g ∙ take-rest known (length rest - known) rest refl ∙ drop-min (end_of p - next) known rest (f ∙ omega arith) in
    let same = ap (λ bytes. count later bytes (drop (index + 1) ps)) cut in
    let end = ap (λ n. count n (drop (end_of p - next) rest) (drop (index + 1) ps)) h in
    omega (arith, more, own, count-front next gap rest p (drop (index + 1) ps) e, same, end)

pub count-nothing : (at : ℕ) (bytes : List ℕ) (ps : List Piece) → bytes ≡ [] → count at bytes ps ≡ 0
count-nothing at bytes ps e = ap (λ bytes. count at bytes ps) e ∙ ap (sum_by piece_len) (fresh-nothing at ps)

pub count-last : (at index : ℕ) (bytes : List ℕ) (ps : List Piece) → length ps ≤ index → count at bytes (drop index ps) ≡ length bytes
count-last at index bytes ps h = at_drop_all (λ qs. count at bytes qs) ps index h ∙ sum-piece_of at bytes
