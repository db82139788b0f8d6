-- The marks of a send book whose bytes go on one path: those that it took come first, and what a call makes of them.
--
-- Bytes that wait are a number of the relation (`waiting`): a grant changes the book and the records and is no move;
-- the sending is the move. The book's marks are `AreTaken`: so many that the path took, and free ones behind them
-- (`proofs/TakenMarks`), so where the next ones are is an equation.
use Rattle.clean_finish.proofs.Words.{◌≡◌, refl, sym, ap, ◌∙◌, ℕ, ◌+◌, ◌-◌, ◌≤◌, min, Bool, true, false, cond, List, [], ◌∷◌, ◌++◌, length, map, All, arith}
use Rattle.clean_finish.proofs.Words.{suc, zero, drop, replicate, take, both_ways, All-nil, All-cons, All-head, All-tail, position_or_len, prefix_len}
use Rattle.clean_finish.proofs.Words.{acked_len, Acked, Held, Free, no_paths, ByteMark, is_acked, is_free_for, given, one_if, AreTaken, IsFree}
use Rattle.send_book.proofs.RunMarks.{count_by-cons}

-- ---- more is written

free_more : (count : ℕ) (marks : List ByteMark) → All IsFree marks → All IsFree (marks ++ replicate count (Free no_paths))
free_more zero [] all = All-nil IsFree
free_more (suc count) [] all = All-cons IsFree (Free no_paths) (replicate count (Free no_paths)) refl (free_more count [] all)
free_more count (m ∷ marks) all = All-cons IsFree m (marks ++ replicate count (Free no_paths)) (All-head IsFree m marks all)
    (free_more count marks (All-tail IsFree m marks all))

pub taken_written : (taken count : ℕ) (marks : List ByteMark) → AreTaken taken marks → AreTaken taken (marks ++ replicate count (Free no_paths))
taken_written zero count marks h = free_more count marks h
taken_written (suc taken) count [] h = absurd h
taken_written (suc taken) count (m ∷ marks) h = (h.0, taken_written taken count marks h.1)

-- ---- more is acknowledged

acked_on : (taken next so : ℕ) (marks : List ByteMark) → so ≡ min next (length marks) → so ≤ taken → AreTaken taken marks
    → AreTaken taken (replicate so Acked ++ drop next marks)
acked_on taken zero zero marks is within h = h
acked_on taken zero (suc so) marks is within h = absurd (omega (arith, is))
acked_on taken (suc next) zero [] is within h = h
acked_on taken (suc next) (suc so) [] is within h = absurd (omega (arith, is))
acked_on taken (suc next) zero (m ∷ marks) is within h = absurd (omega (arith, is))
acked_on zero (suc next) (suc so) (m ∷ marks) is within h = absurd (omega (arith, within))
acked_on (suc taken) (suc next) (suc so) (m ∷ marks) is within h =
    (refl, acked_on taken next so marks (omega (arith, is)) (omega (arith, within)) h.1)

pub taken_acked : (taken next : ℕ) (marks : List ByteMark) → min next (length marks) ≤ taken → AreTaken taken marks
    → AreTaken taken (replicate (min next (length marks)) Acked ++ drop next marks)
taken_acked taken next marks within h = acked_on taken next (min next (length marks)) marks refl within h

-- ---- where the next ones are

not_acked : (m : ByteMark) → IsFree m → is_acked m ≡ false
not_acked Acked free = absurd (both_ways _ refl free)
not_acked (Held path tried) free = refl
not_acked (Free tried) free = refl

one_plus : (n : ℕ) → 1 + n ≡ suc n
one_plus n = omega arith

pub next_free : (taken : ℕ) (marks : List ByteMark) → AreTaken taken marks → position_or_len (is_free_for 0) marks ≡ taken
next_free zero [] h = refl
next_free zero (m ∷ marks) h = rw (All-head IsFree m marks h) refl
next_free (suc taken) [] h = absurd h
next_free (suc taken) (m ∷ marks) h = rw (h.0) (ap (λ (n : ℕ). 1 + n) (next_free taken marks h.1) ∙ one_plus taken)

free_row : (marks : List ByteMark) → All IsFree marks → prefix_len (is_free_for 0) marks ≡ length marks
free_row [] h = refl
free_row (m ∷ marks) h = rw (All-head IsFree m marks h) (ap (λ (n : ℕ). 1 + n) (free_row marks (All-tail IsFree m marks h)) ∙ one_plus (length marks))

pub free_behind : (taken : ℕ) (marks : List ByteMark) → AreTaken taken marks → prefix_len (is_free_for 0) (drop taken marks) ≡ length marks - taken
free_behind zero marks h = free_row marks h ∙ less_none (length marks)
  where
    less_none : (n : ℕ) → n ≡ n - 0
    less_none n = omega arith
free_behind (suc taken) [] h = absurd h
free_behind (suc taken) (m ∷ marks) h = free_behind taken marks h.1 ∙ same (length marks) taken
  where
    same : (x y : ℕ) → x - y ≡ suc x - suc y
    same x y = omega arith

none_acked : (marks : List ByteMark) → All IsFree marks → acked_len marks ≡ 0
none_acked [] h = refl
none_acked (m ∷ marks) h =
    sum (count_by-cons is_acked m marks) (ap one_if (not_acked m (All-head IsFree m marks h))) (none_acked marks (All-tail IsFree m marks h))
  where
    sum : {x y z : ℕ} → x ≡ y + z → y ≡ 0 → z ≡ 0 → x ≡ 0
    sum is a b = omega (arith, is, a, b)

-- no more is acknowledged than was taken
pub few_acked : (taken : ℕ) (marks : List ByteMark) → AreTaken taken marks → acked_len marks ≤ taken
few_acked zero marks h = let none = none_acked marks h in omega (arith, none)
few_acked (suc taken) [] h = absurd h
few_acked (suc taken) (m ∷ marks) h = more (cond (is_acked m) 1 0) (count_by-cons is_acked m marks) (few_acked taken marks h.1) (at_most (is_acked m))
  where
    at_most : (b : Bool) → cond b 1 0 ≤ 1
    at_most true = omega arith
    at_most false = omega arith

    more : {x y : ℕ} (z : ℕ) → x ≡ z + y → y ≤ taken → z ≤ 1 → x ≤ suc taken
    more z is few one = omega (arith, is, few, one)

-- ---- more is granted

given_taken : (m : ByteMark) → is_free_for 0 (given 0 m) ≡ false
given_taken Acked = refl
given_taken (Held path tried) = refl
given_taken (Free tried) = refl

given_unacked : (m : ByteMark) → is_acked (given 0 m) ≡ is_acked m
given_unacked Acked = refl
given_unacked (Held path tried) = refl
given_unacked (Free tried) = refl

abbrev pub granted_marks : ℕ → ℕ → ℕ → List ByteMark → List ByteMark
granted_marks from count to marks = take from marks ++ (map (given 0) (take count (drop from marks)) ++ drop to marks)

pub taken_granted : (from count to : ℕ) (marks : List ByteMark) → to ≡ from + count → to ≤ length marks → AreTaken from marks
    → AreTaken to (granted_marks from count to marks)
taken_granted zero zero zero marks is within h = h
taken_granted zero zero (suc to) marks is within h = absurd (omega (arith, is))
taken_granted zero (suc count) zero marks is within h = absurd (omega (arith, is))
taken_granted zero (suc count) (suc to) [] is within h = absurd (omega (arith, within))
taken_granted zero (suc count) (suc to) (m ∷ marks) is within h =
    (given_taken m, taken_granted zero count to marks (omega (arith, is)) (omega (arith, within)) (All-tail IsFree m marks h))
taken_granted (suc from) count to [] is within h = absurd h
taken_granted (suc from) count zero (m ∷ marks) is within h = absurd (omega (arith, is))
taken_granted (suc from) count (suc to) (m ∷ marks) is within h =
    (h.0, taken_granted from count to marks (omega (arith, is)) (omega (arith, within)) h.1)

-- one mark before the others counts as much as before
one_more : (x m : ByteMark) → is_acked x ≡ is_acked m → (xs ms : List ByteMark) → acked_len xs ≡ acked_len ms → acked_len (x ∷ xs) ≡ acked_len (m ∷ ms)
one_more x m is xs ms same =
    count_by-cons is_acked x xs ∙ (ap (λ (b : Bool). cond b 1 0 + acked_len xs) is ∙ (ap (λ (n : ℕ). cond (is_acked m) 1 0 + n) same ∙ sym (count_by-cons is_acked m ms)))

-- and as many are acknowledged as before
pub granted_acked : (from count to : ℕ) (marks : List ByteMark) → to ≡ from + count → to ≤ length marks
    → acked_len (granted_marks from count to marks) ≡ acked_len marks
granted_acked zero zero zero marks is within = refl
granted_acked zero zero (suc to) marks is within = absurd (omega (arith, is))
granted_acked zero (suc count) zero marks is within = absurd (omega (arith, is))
granted_acked zero (suc count) (suc to) [] is within = absurd (omega (arith, within))
granted_acked zero (suc count) (suc to) (m ∷ marks) is within =
    one_more (given 0 m) m (given_unacked m) (granted_marks zero count to marks) marks (granted_acked zero count to marks (omega (arith, is)) (omega (arith, within)))
granted_acked (suc from) count to [] is within = absurd (omega (arith, is, within))
granted_acked (suc from) count zero (m ∷ marks) is within = absurd (omega (arith, is))
granted_acked (suc from) count (suc to) (m ∷ marks) is within =
    one_more m m refl (granted_marks from count to marks) marks (granted_acked from count to marks (omega (arith, is)) (omega (arith, within)))

pub granted_length : (from count to : ℕ) (marks : List ByteMark) → to ≡ from + count → to ≤ length marks
    → length (granted_marks from count to marks) ≡ length marks
granted_length zero zero zero marks is within = refl
granted_length zero zero (suc to) marks is within = absurd (omega (arith, is))
granted_length zero (suc count) zero marks is within = absurd (omega (arith, is))
granted_length zero (suc count) (suc to) [] is within = absurd (omega (arith, within))
granted_length zero (suc count) (suc to) (m ∷ marks) is within =
    ap (λ (n : ℕ). suc n) (granted_length zero count to marks (omega (arith, is)) (omega (arith, within)))
granted_length (suc from) count to [] is within = absurd (omega (arith, is, within))
granted_length (suc from) count zero (m ∷ marks) is within = absurd (omega (arith, is))
granted_length (suc from) count (suc to) (m ∷ marks) is within =
    ap (λ (n : ℕ). suc n) (granted_length from count to marks (omega (arith, is)) (omega (arith, within)))
