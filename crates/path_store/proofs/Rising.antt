-- Pieces that rise: what the first one and the last one tell of all.
--
-- A list that is mostly in order (`GrantedPieces` of `path_store`): a flag beside it, of which the invariant says that
-- where it is set the list rises; each call has a function for the list that rises and one for any. `link_model` keeps
-- its copies in order and puts the next one behind the last or by halves: one lemma says which copies stand before it
-- (`parted`), and both ways are read off it.
use Rattle.std.proofs.Common.{◌≡◌, refl, sym, ap, ℕ, zero, suc, ◌-◌, ◌<◌, ◌≤◌, Bool, true, false, not, List, [], ◌∷◌, ◌++◌, length, get_or, drop, arith}
use Rattle.std.specs.Prelude.{nat_lt, max, filter}
use Rattle.std.specs.List.{list_any}
use Rattle.path_store.specs.declared.granted_piece.GrantedPiece.{GrantedPiece}
use Rattle.path_store.specs.Granted.{is_newly_heard, is_open, granted_to}
use Rattle.path_store.specs.Rising.{IsLowest, Rise}

lowest_at : (x : GrantedPiece) (xs : List GrantedPiece) (k : ℕ) (d : GrantedPiece) → IsLowest x xs → k < length xs → (x.from ≤ (get_or xs k d).from) × (x.to ≤ (get_or xs k d).to)
lowest_at x [] k d low within = absurd (omega (arith, within))
lowest_at x (y ∷ xs) zero d low within = low.0
lowest_at x (y ∷ xs) (suc k) d low within = lowest_at x xs k d low.1 (omega (arith, within))

lowest_push : (x : GrantedPiece) (xs : List GrantedPiece) (piece : GrantedPiece) → IsLowest x xs → (x.from ≤ piece.from) × (x.to ≤ piece.to) → IsLowest x (xs ++ piece ∷ [])
lowest_push x [] piece low here = (here, tt)
lowest_push x (y ∷ xs) piece low here = (low.0, lowest_push x xs piece low.1 here)

-- a piece behind the last one
pub rise_behind : (pieces : List GrantedPiece) (n : ℕ) (d piece : GrantedPiece) → n ≡ length pieces - 1 → (get_or pieces n d).from ≤ piece.from → (get_or pieces n d).to ≤ piece.to
    → Rise pieces → Rise (pieces ++ piece ∷ [])
rise_behind [] n d piece last from to rise = (tt, tt)
rise_behind (x ∷ []) zero d piece last from to rise = (((from, to), tt), (tt, tt))
rise_behind (x ∷ []) (suc n) d piece last from to rise = absurd (omega (arith, last))
rise_behind (x ∷ y ∷ xs) zero d piece last from to rise = absurd (omega (arith, last))
rise_behind (x ∷ y ∷ xs) (suc n) d piece last from to rise =
    let low = lowest_at x (y ∷ xs) n d rise.0 (omega (arith, last)) in
    (lowest_push x (y ∷ xs) piece rise.0 (omega (arith, low.0, from), omega (arith, low.1, to)), rise_behind (y ∷ xs) n d piece (omega (arith, last)) from to rise.1)

-- a piece behind the last one, which stands there
pub rise_behind_last : (pieces : List GrantedPiece) (n : ℕ) (last piece : GrantedPiece) → n ≡ length pieces - 1 → last ≡ get_or pieces n last → last.from ≤ piece.from → last.to ≤ piece.to
    → Rise pieces → Rise (pieces ++ piece ∷ [])
rise_behind_last pieces n last piece is at from to rise =
    rise_behind pieces n last piece is (omega (arith, ap (λ (s : GrantedPiece). s.from) at, from)) (omega (arith, ap (λ (s : GrantedPiece). s.to) at, to)) rise

lowest_front : (x : GrantedPiece) (xs ys : List GrantedPiece) → IsLowest x (xs ++ ys) → IsLowest x xs
lowest_front x [] ys low = tt
lowest_front x (y ∷ xs) ys low = (low.0, lowest_front x xs ys low.1)

pub rise_front : (xs ys : List GrantedPiece) → Rise (xs ++ ys) → Rise xs
rise_front [] ys rise = tt
rise_front (x ∷ xs) ys rise = (lowest_front x xs ys rise.0, rise_front xs ys rise.1)

-- ---- what was heard

not_heard : (a b heard next : ℕ) → a ≤ b → nat_lt (max a heard) next ≡ false → nat_lt (max b heard) next ≡ false
not_heard a b heard next low not = grind (arith, low, not)

none_heard : (heard next : ℕ) (x : GrantedPiece) (xs : List GrantedPiece) → is_newly_heard heard next x ≡ false → IsLowest x xs → list_any (is_newly_heard heard next) xs ≡ false
none_heard heard next x [] not low = refl
none_heard heard next x (y ∷ xs) not low = rw (not_heard x.from y.from heard next low.0.0 not) (none_heard heard next x xs not low.1)

pub first_tells : (heard next : ℕ) (pieces : List GrantedPiece) (d : GrantedPiece) → 0 < length pieces → Rise pieces
    → is_newly_heard heard next (get_or pieces 0 d) ≡ list_any (is_newly_heard heard next) pieces
first_tells heard next [] d some rise = absurd (omega (arith, some))
first_tells heard next (x ∷ xs) d some rise = (elim (is_newly_heard heard next x) as (λ b. is_newly_heard heard next x ≡ b → b ≡ list_any (is_newly_heard heard next) (x ∷ xs))
    [ true ↦ λ e. rw e refl | false ↦ λ e. rw e (sym (none_heard heard next x xs e rise.0)) ]) refl

-- ---- what is acknowledged whole

still_open : (a b heard : ℕ) → a ≤ b → nat_lt heard a ≡ true → nat_lt heard b ≡ true
still_open a b heard low is = grind (arith, low, is)

all_open : (heard : ℕ) (x : GrantedPiece) (xs : List GrantedPiece) → is_open heard x ≡ true → IsLowest x xs → filter (is_open heard) xs ≡ xs
all_open heard x [] is low = refl
all_open heard x (y ∷ xs) is low = rw (still_open x.to y.to heard low.0.1 is) (ap (λ rest. y ∷ rest) (all_open heard x xs is low.1))

-- where the first one is acknowledged whole
pub first_goes : (heard : ℕ) (pieces : List GrantedPiece) (d : GrantedPiece) → not (is_open heard (get_or pieces 0 d)) ≡ true → filter (is_open heard) (drop 1 pieces) ≡ filter (is_open heard) pieces
first_goes heard [] d not = refl
first_goes heard (x ∷ xs) d closed = rw ((elim (is_open heard x) as (λ b. not b ≡ true → b ≡ false) [ true ↦ λ e. sym e | false ↦ λ e. refl ]) closed) refl

-- and where it isn't
pub all_stay : (heard : ℕ) (pieces : List GrantedPiece) (d : GrantedPiece) → Rise pieces → not (is_open heard (get_or pieces 0 d)) ≡ false → filter (is_open heard) pieces ≡ pieces
all_stay heard [] d rise is = refl
all_stay heard (x ∷ xs) d rise is = all_open heard x (x ∷ xs) (by (is_open heard x) is) ((omega arith, omega arith), rise.0)
  where
    by : (b : Bool) → not b ≡ false → b ≡ true
    by true e = refl
    by false e = sym e

-- ---- all that was granted

pub granted_to-append : (xs ys : List GrantedPiece) → granted_to (xs ++ ys) ≡ max (granted_to xs) (granted_to ys)
granted_to-append [] ys = omega arith
granted_to-append (x ∷ xs) ys = omega (arith, granted_to-append xs ys)
