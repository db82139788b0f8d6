-- Pieces in order.
use Rattle.std.proofs.Common.{◌≡◌, ℕ, zero, suc, ◌+◌, ◌<◌, ◌≤◌, true, false, nat_le, nat_lt, nat_eq, List, [], ◌∷◌, length, get_or, refl, arith}
use Rattle.std.proofs.lemmas.Bool.Decides.{nat_tests}
use Rattle.byte_pieces.specs.declared.piece.Piece.{Piece}
use Rattle.byte_pieces.specs.Pieces.{end_of, AreOrdered, AreBounded}

pub le_true : (a b : ℕ) → a ≤ b → nat_le a b ≡ true
le_true a b h = grind (arith, nat_tests)

pub le_false : (a b : ℕ) → b < a → nat_le a b ≡ false
le_false a b h = grind (arith, nat_tests)

pub lt_true : (a b : ℕ) → a < b → nat_lt a b ≡ true
lt_true a b h = grind (arith, nat_tests)

pub lt_false : (a b : ℕ) → b ≤ a → nat_lt a b ≡ false
lt_false a b h = grind (arith, nat_tests)

pub eq_true : (a b : ℕ) → a ≡ b → nat_eq a b ≡ true
eq_true a b h = grind (arith, nat_tests)

pub eq_false : (a b : ℕ) → b < a → nat_eq a b ≡ false
eq_false a b h = grind (arith, nat_tests)

pub differ : (a b : ℕ) → (a ≡ b → ⊥) → nat_eq a b ≡ false
differ a b h = grind (arith, nat_tests)

pub is_zero : (n : ℕ) → nat_eq n 0 ≡ true → n ≡ 0
is_zero n h = grind (arith, nat_tests)

pub ordered-le : (from to : ℕ) (ps : List Piece) → AreOrdered from to ps → from ≤ to
ordered-le from to [] h = h
ordered-le from to (p ∷ ps) h = let rest = ordered-le (end_of p) to ps h.2 in omega (arith, rest, h.0)

pub ordered-bounded : (from to : ℕ) (ps : List Piece) → AreOrdered from to ps → AreBounded to ps
ordered-bounded from to [] h = tt
ordered-bounded from to (p ∷ ps) h = (ordered-le (end_of p) to ps h.2, ordered-bounded (end_of p) to ps h.2)

pub ordered-below : (from other to : ℕ) (ps : List Piece) → other ≤ from → AreOrdered from to ps → AreOrdered other to ps
ordered-below from other to [] le h = omega (arith, le, h)
ordered-below from other to (p ∷ ps) le h = (omega (arith, le, h.0), h.1, h.2)

pub bounded-at : (to : ℕ) (ps : List Piece) (i : ℕ) (d : Piece) → AreBounded to ps → i < length ps → end_of (get_or ps i d) ≤ to
bounded-at to [] i d h lt = absurd (omega arith)
bounded-at to (p ∷ ps) zero d h lt = h.0
bounded-at to (p ∷ ps) (suc i) d h lt = bounded-at to ps i d h.1 (omega arith)

-- where the last piece ends
abbrev pub last_end : ℕ → List Piece → ℕ
last_end from [] = from
last_end from (p ∷ ps) = last_end (end_of p) ps

pub last_end-is : (from i : ℕ) (ps : List Piece) (d : Piece) → i + 1 ≡ length ps → last_end from ps ≡ end_of (get_or ps i d)
last_end-is from i [] d e = absurd (omega arith)
last_end-is from zero (p ∷ []) d e = refl
last_end-is from (suc i) (p ∷ []) d e = absurd (omega arith)
last_end-is from zero (p ∷ q ∷ ps) d e = absurd (omega arith)
last_end-is from (suc i) (p ∷ q ∷ ps) d e = last_end-is (end_of p) i (q ∷ ps) d (omega arith)
