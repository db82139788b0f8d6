-- How many empty places stand before the first byte.
use Rattle.std.proofs.Common.{◌≡◌, ℕ, zero, suc, ◌+◌, ◌-◌, ◌<◌, ◌≤◌, Option, Some, None, List, [], ◌∷◌, ◌++◌, length, get_or, map, replicate, refl, sym, ap, ◌∙◌, arith}
use Rattle.byte_pieces.specs.declared.piece.Piece.{Piece}
use Rattle.byte_pieces.specs.Places.{gap_len}
use Rattle.byte_pieces.specs.Pieces.{end_of, spread, AreOrdered}
use Rattle.byte_pieces.proofs.Ordered.{ordered-le}

gap-before : (n : ℕ) (bytes : List ℕ) (places : List (Option ℕ)) → 0 < length bytes → gap_len (replicate n None ++ (map Some bytes ++ places)) ≡ n
gap-before n [] places some = absurd (omega (arith, some))
gap-before zero (byte ∷ bytes) places some = refl
gap-before (suc n) (byte ∷ bytes) places some = ap suc (gap-before n (byte ∷ bytes) places some)

pub gap-first : (from to : ℕ) (ps : List Piece) (p : Piece) → AreOrdered from to ps → 0 < length ps → p ≡ get_or ps 0 p → p.at - from ≡ gap_len (spread from ps)
gap-first from to [] p h some is = absurd (omega (arith, some))
gap-first from to (q ∷ ps) p h some is = ap (λ (r : Piece). r.at - from) is ∙ sym (gap-before (q.at - from) q.bytes (spread (end_of q) ps) h.1)

pub gap-bound : (from to : ℕ) (ps : List Piece) (p : Piece) → AreOrdered from to ps → 0 < length ps → p ≡ get_or ps 0 p → from + (p.at - from) ≤ to
gap-bound from to [] p h some is = absurd (omega (arith, some))
gap-bound from to (q ∷ ps) p h some is =
    let same : p.at ≡ q.at = ap (λ (r : Piece). r.at) is in
    omega (arith, same, h.0, ordered-le (end_of q) to ps h.2)

pub gap-none : (from : ℕ) (ps : List Piece) → length ps ≤ 0 → 0 ≡ gap_len (spread from ps)
gap-none from [] few = refl
gap-none from (q ∷ ps) few = absurd (omega (arith, few))
