-- What the loops over the pieces have come to.
use Rattle.std.proofs.Common.{◌≡◌, ℕ, zero, suc, ◌<◌, ◌≤◌, true, false, nat_lt, List, [], ◌∷◌, length, get_or, refl, ap, arith, ⊎_elim}
use Rattle.std.specs.List.{insert}
use Rattle.std.specs.List.Sorted.{IsPartitionPoint, IsNonDecreasingBy}
use Rattle.std.proofs.lemmas.Bool.{cases_lt}
use Rattle.byte_pieces.specs.declared.piece.Piece.{Piece}
use Rattle.byte_pieces.specs.Pieces.{end_of, AreOrdered, begun_before, with_piece}
use Rattle.byte_pieces.proofs.Ordered.{lt_true, lt_false}

abbrev pub start_of : Piece → ℕ
start_of p = p.at

first_at : (from to : ℕ) (ps : List Piece) (i : ℕ) (d : Piece) → AreOrdered from to ps → i < length ps → from ≤ (get_or ps i d).at
first_at from to [] i d h lt = absurd (omega arith)
first_at from to (p ∷ ps) zero d h lt = h.0
first_at from to (p ∷ ps) (suc i) d h lt = let rest = first_at (end_of p) to ps i d h.2 (omega arith) in omega (arith, h.0, rest)

pub ordered-rises : (from to : ℕ) (ps : List Piece) → AreOrdered from to ps → IsNonDecreasingBy start_of ps
ordered-rises from to ps h = λ i j d le lt. rises from to ps i j d h le lt
  where
    rises : (from to : ℕ) (ps : List Piece) (i j : ℕ) (d : Piece) → AreOrdered from to ps → i ≤ j → j < length ps → (get_or ps i d).at ≤ (get_or ps j d).at
    rises from to [] i j d h le lt = absurd (omega arith)
    rises from to (p ∷ ps) zero zero d h le lt = omega arith
    rises from to (p ∷ ps) zero (suc j) d h le lt = let later = first_at (end_of p) to ps j d h.2 (omega arith) in omega arith
    rises from to (p ∷ ps) (suc i) zero d h le lt = absurd (omega arith)
    rises from to (p ∷ ps) (suc i) (suc j) d h le lt = rises (end_of p) to ps i j d h.2 (omega arith) (omega arith)

pub begun_before-point : (at : ℕ) (ps : List Piece) (i : ℕ) → i ≤ length ps
    → IsPartitionPoint (λ p. nat_lt p.at at ≡ true) (λ p. nat_lt p.at at ≡ false) ps i → i ≡ begun_before at ps
begun_before-point at [] i le h = omega arith
begun_before-point at (p ∷ ps) zero le h = rw (h.1 0 p (omega arith) (omega arith)) refl
begun_before-point at (p ∷ ps) (suc i) le h =
    rw (h.0 0 p (omega arith) (omega arith))
    (ap suc (begun_before-point at ps i (omega arith) (λ k d low high. h.0 (suc k) d (omega arith) (omega arith), λ k d low high. h.1 (suc k) d (omega arith) (omega arith))))

pub insert-begun : (q : Piece) (ps : List Piece) (i : ℕ) → i ≡ begun_before q.at ps → insert ps i q ≡ with_piece q ps
insert-begun q [] zero e = refl
insert-begun q [] (suc i) e = absurd (omega arith)
insert-begun q (p ∷ ps) zero e =
    ⊎_elim (λ lt. let f = rw (lt_true p.at q.at lt) at e in absurd (omega arith)) (λ ge. rw (lt_false p.at q.at ge) refl) (cases_lt p.at q.at)
insert-begun q (p ∷ ps) (suc i) e =
    ⊎_elim
    (λ lt. let f = rw (lt_true p.at q.at lt) at e in rw (lt_true p.at q.at lt) (ap (λ (rest : List Piece). p ∷ rest) (insert-begun q ps i (omega arith))))
    (λ ge. let f = rw (lt_false p.at q.at ge) at e in absurd (omega arith))
    (cases_lt p.at q.at)

-- pieces in order of where they begin, by recursion
abbrev AreRising : ℕ → List Piece → Type 0
AreRising from [] = Unit {0}
AreRising from (p ∷ ps) = (from ≤ p.at) × AreRising p.at ps

rising-at : (from i : ℕ) (d : Piece) (ps : List Piece) → AreRising from ps → i < length ps → from ≤ (get_or ps i d).at
rising-at from i d [] h lt = absurd (omega arith)
rising-at from zero d (p ∷ ps) h lt = h.0
rising-at from (suc i) d (p ∷ ps) h lt = let rest = rising-at p.at i d ps h.1 (omega arith) in omega (arith, h.0, rest)

rises-rising : (from : ℕ) (ps : List Piece) → AreRising from ps → IsNonDecreasingBy start_of ps
rises-rising from ps h = λ i j d le lt. rises from ps i j d h le lt
  where
    rises : (from : ℕ) (ps : List Piece) (i j : ℕ) (d : Piece) → AreRising from ps → i ≤ j → j < length ps → (get_or ps i d).at ≤ (get_or ps j d).at
    rises from [] i j d h le lt = absurd (omega arith)
    rises from (p ∷ ps) zero zero d h le lt = omega arith
    rises from (p ∷ ps) zero (suc j) d h le lt = rising-at p.at j d ps h.1 (omega arith)
    rises from (p ∷ ps) (suc i) zero d h le lt = absurd (omega arith)
    rises from (p ∷ ps) (suc i) (suc j) d h le lt = rises p.at ps i j d h.1 (omega arith) (omega arith)

rising-rises : (from : ℕ) (ps : List Piece) → IsNonDecreasingBy start_of ps → ((d : Piece) → 0 < length ps → from ≤ (get_or ps 0 d).at) → AreRising from ps
rising-rises from [] h first = tt
rising-rises from (p ∷ ps) h first =
    (first p (omega arith), rising-rises p.at ps (λ i j d le lt. h (suc i) (suc j) d (omega arith) (omega arith)) (λ d some. h 0 1 d (omega arith) (omega arith)))

with_piece-rising : (from : ℕ) (q : Piece) (ps : List Piece) → AreRising from ps → from ≤ q.at → AreRising from (with_piece q ps)
with_piece-rising from q [] h le = (le, tt)
with_piece-rising from q (p ∷ ps) h le =
    ⊎_elim
    (λ (lt : p.at < q.at). rw (lt_true p.at q.at lt) (h.0, with_piece-rising p.at q ps h.1 (omega arith)))
    (λ (ge : q.at ≤ p.at). rw (lt_false p.at q.at ge) (le, (ge, h.1)))
    (cases_lt p.at q.at)

pub with_piece-rises : (q : Piece) (ps : List Piece) → IsNonDecreasingBy start_of ps → IsNonDecreasingBy start_of (with_piece q ps)
with_piece-rises q ps h = rises-rising 0 (with_piece q ps) (with_piece-rising 0 q ps (rising-rises 0 ps h (λ d some. omega arith)) (omega arith))
