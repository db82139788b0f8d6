-- Where the pieces that lie side by side end, told from a position that they reach.
use Rattle.std.proofs.Common.{◌≡◌, ℕ, zero, suc, ◌+◌, ◌-◌, ◌<◌, ◌≤◌, max, Bool, if◌then◌else◌, Option, Some, None, List, [], ◌∷◌, length, get_or, drop, refl, sym, ap, ◌∙◌, arith, ⊎_elim}
use Rattle.std.proofs.lemmas.Bool.{cases_lt}
use Rattle.std.proofs.lemmas.List.{at_drop_more}
use Rattle.byte_pieces.specs.declared.piece.Piece.{Piece}
use Rattle.byte_pieces.specs.Places.{filled, merged}
use Rattle.byte_pieces.specs.Pieces.{end_of, spread, AreOrdered, begun_before, side_by_side_end, end_past}
use Rattle.byte_pieces.proofs.Ordered.{lt_true, lt_false, eq_true, eq_false}
use Rattle.byte_pieces.proofs.Spreading.{side_by_side_end-is}
use Rattle.byte_pieces.proofs.Filling.{begun-from}

pub end-least : (from limit : ℕ) (ps : List Piece) → AreOrdered from limit ps → from ≤ side_by_side_end from ps
end-least from limit ps h = omega (arith, side_by_side_end-is from limit ps h)

-- from a position that they reach the walk comes where it comes from the first one
pub end_past-is : (from reached limit : ℕ) (ps : List Piece) → AreOrdered from limit ps → from ≤ reached → reached ≤ side_by_side_end from ps
    → end_past reached ps ≡ side_by_side_end from ps
end_past-is from reached limit [] h le within = omega (arith, le, within)
end_past-is from reached limit (p ∷ ps) h le within =
    ⊎_elim
    (λ (lt : from < p.at). let other = eq_false p.at from lt in
    let most : reached ≤ from = rw other at within in
    rw (other, lt_true reached p.at (omega (arith, most, lt))) (omega (arith, le, most)))
    (λ (ge : p.at ≤ from). let e : p.at ≡ from = omega (arith, h.0, ge) in
    let same = eq_true p.at from e in
    let inside : reached ≤ side_by_side_end (end_of p) ps = rw same at within in
    rw (same, lt_false reached p.at (omega (arith, e, le)))
    (end_past-is (end_of p) (max reached (end_of p)) limit ps h.2 (omega arith) (omega (arith, inside, end-least (end_of p) limit ps h.2))))
    (cases_lt from p.at)

-- ---- pieces that end before that position
end_past-passed : (reached : ℕ) (p : Piece) (ps : List Piece) → end_of p ≤ reached → end_past reached (p ∷ ps) ≡ end_past reached ps
end_past-passed reached p ps le =
    let b : max reached (end_of p) ≡ reached = omega (arith, le) in
    rw (lt_false reached p.at (omega (arith, le)), b) refl

pub end_past-begun : (from to reached k : ℕ) (ps : List Piece) → AreOrdered from to ps → k ≡ begun_before reached ps - 1
    → end_past reached (drop k ps) ≡ end_past reached ps
end_past-begun from to reached zero ps h e = refl
end_past-begun from to reached (suc k) [] h e = absurd (omega arith)
end_past-begun from to reached (suc k) (p ∷ ps) h e =
    ⊎_elim
    (λ lt. let f : suc k ≡ suc (begun_before reached ps) - 1 = rw (lt_true p.at reached lt) at e in
    let some : begun_before reached ps ≡ suc k = omega arith in
    let passed : end_of p < reached = begun-from (end_of p) to reached k ps h.2 some in
    end_past-begun (end_of p) to reached k ps h.2 (omega arith) ∙ sym (end_past-passed reached p ps (omega arith)))
    (λ ge. let f : suc k ≡ 0 - 1 = rw (lt_false p.at reached ge) at e in absurd (omega arith))
    (cases_lt p.at reached)

-- ---- the walk over the pieces from an index on
pub end_past-here : (reached : ℕ) (ps : List Piece) (i : ℕ) (d : Piece) → i < length ps → reached < (get_or ps i d).at
    → end_past reached (drop i ps) ≡ reached
end_past-here reached ps i d lt past =
    at_drop_more (end_past reached) ps i d lt
    ∙ ap (λ (b : Bool). if b then reached else end_past (max reached (end_of (get_or ps i d))) (drop (i + 1) ps)) (lt_true reached (get_or ps i d).at past)

pub end_past-on : (reached : ℕ) (ps : List Piece) (i : ℕ) (d : Piece) → i < length ps → (get_or ps i d).at ≤ reached
    → end_past reached (drop i ps) ≡ end_past (max reached (end_of (get_or ps i d))) (drop (i + 1) ps)
end_past-on reached ps i d lt here =
    at_drop_more (end_past reached) ps i d lt
    ∙ ap (λ (b : Bool). if b then reached else end_past (max reached (end_of (get_or ps i d))) (drop (i + 1) ps)) (lt_false reached (get_or ps i d).at here)

-- ---- once more is kept
filled-merged : (places others : List (Option ℕ)) → length (filled places) ≤ length (filled (merged places others))
filled-merged [] others = omega arith
filled-merged (None ∷ places) [] = omega arith
filled-merged (Some byte ∷ places) [] = omega arith
filled-merged (Some byte ∷ places) (other ∷ others) = omega (arith, filled-merged places others)
filled-merged (None ∷ places) (other ∷ others) = omega arith

pub end-grows : (from limit : ℕ) (ps qs : List Piece) (others : List (Option ℕ)) → AreOrdered from limit ps → AreOrdered from limit qs
    → spread from qs ≡ merged (spread from ps) others → side_by_side_end from ps ≤ side_by_side_end from qs
end-grows from limit ps qs others h g e =
    omega (
      arith,
      side_by_side_end-is from limit ps h,
      side_by_side_end-is from limit qs g,
      ap (λ places. length (filled places)) e,
      filled-merged (spread from ps) others,
    )
