-- The places of pieces.
use Rattle.std.proofs.Common.{◌≡◌, ℕ, zero, suc, ◌+◌, ◌-◌, ◌<◌, ◌≤◌, max, Bool, if◌then◌else◌, Option, Some, None, is_some, List, [], ◌∷◌, ◌++◌, length, get_or, drop, map, replicate, count_by, cond, refl, sym, ap, ◌∙◌, arith, ⊎_elim}
use Rattle.std.specs.Prelude.{All}
use Rattle.std.specs.List.{concat, sum_by}
use Rattle.std.proofs.lemmas.Bool.{cases_lt}
use Rattle.std.proofs.lemmas.List.{drop-append-le, drop-map, at_drop_more}
use Rattle.std.proofs.lemmas.List.Elements.{All-nil, All-cons}
use Rattle.std.proofs.lemmas.List.Sums.{sum_by-cons}
use Rattle.byte_pieces.specs.declared.piece.Piece.{Piece}
use Rattle.byte_pieces.specs.Places.{filled}
use Rattle.byte_pieces.specs.Pieces.{end_of, piece_len, spread, AreOrdered, side_by_side, side_by_side_end}
use Rattle.byte_pieces.proofs.Ordered.{eq_true, eq_false, differ, ordered-le, last_end}

-- ---- lists
pub length-some : (bytes : List ℕ) → length (map Some bytes) ≡ length bytes
length-some [] = refl
length-some (byte ∷ bytes) = ap suc (length-some bytes)

length-append : (xs ys : List (Option ℕ)) → length (xs ++ ys) ≡ length xs + length ys
length-append [] ys = omega arith
length-append (x ∷ xs) ys = omega (arith, length-append xs ys)

length-none : (n : ℕ) → length (replicate {A = Option ℕ} n None) ≡ n
length-none zero = refl
length-none (suc n) = ap suc (length-none n)

drop-nothing : (n : ℕ) → drop {A = Option ℕ} n [] ≡ []
drop-nothing zero = refl
drop-nothing (suc n) = refl

-- ---- counts
count-cons : (byte : ℕ) (places : List (Option ℕ)) → count_by is_some (Some byte ∷ places) ≡ 1 + count_by is_some places
count-cons byte places = sum_by-cons (λ place. cond (is_some place) 1 0) (Some byte) places

count-empty : (places : List (Option ℕ)) → count_by is_some (None ∷ places) ≡ count_by is_some places
count-empty places = omega (arith, sum_by-cons (λ place. cond (is_some place) 1 0) None places)

count-none : (k : ℕ) (places : List (Option ℕ)) → count_by is_some (replicate k None ++ places) ≡ count_by is_some places
count-none zero places = refl
count-none (suc k) places = count-empty (replicate k None ++ places) ∙ count-none k places

count-bytes : (bytes : List ℕ) (places : List (Option ℕ)) → count_by is_some (map Some bytes ++ places) ≡ length bytes + count_by is_some places
count-bytes [] places = omega arith
count-bytes (byte ∷ bytes) places = omega (arith, count-cons byte (map Some bytes ++ places), count-bytes bytes places)

pub count-spread : (from : ℕ) (ps : List Piece) → count_by is_some (spread from ps) ≡ sum_by piece_len ps
count-spread from [] = refl
count-spread from (p ∷ ps) =
    count-none (p.at - from) (map Some p.bytes ++ spread (end_of p) ps)
    ∙ count-bytes p.bytes (spread (end_of p) ps)
    ∙ ap (λ n. length p.bytes + n) (count-spread (end_of p) ps)
    ∙ sym (sum_by-cons piece_len p ps)

-- ---- the position after the last byte
pub length-spread : (from to : ℕ) (ps : List Piece) → AreOrdered from to ps → from + length (spread from ps) ≡ last_end from ps
length-spread from to [] h = omega arith
length-spread from to (p ∷ ps) h =
    omega (
      arith,
      length-spread (end_of p) to ps h.2,
      h.0,
      length-none (p.at - from),
      length-some p.bytes,
      length-append (replicate (p.at - from) None) (map Some p.bytes ++ spread (end_of p) ps),
      length-append (map Some p.bytes) (spread (end_of p) ps),
    )

-- ---- the bytes before the first gap
filled-bytes : (bytes : List ℕ) (places : List (Option ℕ)) → filled (map Some bytes ++ places) ≡ bytes ++ filled places
filled-bytes [] places = refl
filled-bytes (byte ∷ bytes) places = ap (λ rest. byte ∷ rest) (filled-bytes bytes places)

filled-none : (n : ℕ) (places : List (Option ℕ)) → 0 < n → filled (replicate n None ++ places) ≡ []
filled-none zero places some = absurd (omega arith)
filled-none (suc n) places some = refl

filled-here : (from : ℕ) (p : Piece) (ps : List Piece) → p.at ≡ from → filled (spread from (p ∷ ps)) ≡ p.bytes ++ filled (spread (end_of p) ps)
filled-here from p ps e =
    let none : p.at - from ≡ 0 = omega arith in
    rw none (filled-bytes p.bytes (spread (end_of p) ps))

pub concat-side_by_side : (from to : ℕ) (ps : List Piece) → AreOrdered from to ps → concat (side_by_side from ps) ≡ filled (spread from ps)
concat-side_by_side from to [] h = refl
concat-side_by_side from to (p ∷ ps) h =
    ⊎_elim
    (λ lt. rw (eq_false p.at from lt) (sym (filled-none (p.at - from) (map Some p.bytes ++ spread (end_of p) ps) (omega arith))))
    (λ (le : p.at ≤ from). let e : p.at ≡ from = omega (arith, h.0) in
    rw (eq_true p.at from e) (ap (λ rest. p.bytes ++ rest) (concat-side_by_side (end_of p) to ps h.2) ∙ sym (filled-here from p ps e)))
    (cases_lt from p.at)

abbrev pub HasBytes : List ℕ → Type 0
HasBytes part = 0 < length part

pub some-side_by_side : (from to : ℕ) (ps : List Piece) → AreOrdered from to ps → All HasBytes (side_by_side from ps)
some-side_by_side from to [] h = All-nil HasBytes
some-side_by_side from to (p ∷ ps) h =
    ⊎_elim
    (λ (lt : from < p.at). rw (eq_false p.at from lt) (All-nil HasBytes))
    (λ (le : p.at ≤ from). rw (eq_true p.at from (omega (arith, h.0)))
    (All-cons HasBytes p.bytes (side_by_side (end_of p) ps) h.1 (some-side_by_side (end_of p) to ps h.2)))
    (cases_lt from p.at)

length-bytes : (xs ys : List ℕ) → length (xs ++ ys) ≡ length xs + length ys
length-bytes [] ys = omega arith
length-bytes (x ∷ xs) ys = omega (arith, length-bytes xs ys)

pub side_by_side_end-is : (from to : ℕ) (ps : List Piece) → AreOrdered from to ps → side_by_side_end from ps ≡ from + length (filled (spread from ps))
side_by_side_end-is from to [] h = omega arith
side_by_side_end-is from to (p ∷ ps) h =
    ⊎_elim
    (λ lt. rw (eq_false p.at from lt) (omega (arith, ap length (filled-none (p.at - from) (map Some p.bytes ++ spread (end_of p) ps) (omega arith)))))
    (λ (le : p.at ≤ from). let e : p.at ≡ from = omega (arith, h.0) in
    rw (eq_true p.at from e)
    (omega (arith, e, ap length (filled-here from p ps e), length-bytes p.bytes (filled (spread (end_of p) ps)), side_by_side_end-is (end_of p) to ps h.2)))
    (cases_lt from p.at)

pub side_by_side_end-le : (from to : ℕ) (ps : List Piece) → AreOrdered from to ps → side_by_side_end from ps ≤ to
side_by_side_end-le from to [] h = h
side_by_side_end-le from to (p ∷ ps) h =
    ⊎_elim
    (λ (lt : from < p.at). rw (eq_false p.at from lt) (omega (arith, ordered-le (end_of p) to ps h.2)))
    (λ (le : p.at ≤ from). rw (eq_true p.at from (omega (arith, h.0))) (side_by_side_end-le (end_of p) to ps h.2))
    (cases_lt from p.at)

-- pieces side by side end at an index where the next piece begins elsewhere
pub side_by_side_end-here : (end : ℕ) (ps : List Piece) (i : ℕ) (d : Piece) → i < length ps → ((get_or ps i d).at ≡ end → ⊥) → side_by_side_end end (drop i ps) ≡ end
side_by_side_end-here end ps i d lt other =
    at_drop_more (side_by_side_end end) ps i d lt
    ∙ ap (λ (b : Bool). if b then side_by_side_end (end_of (get_or ps i d)) (drop (i + 1) ps) else end) (differ (get_or ps i d).at end other)

-- ---- the first places are dropped
drop-short : (a n k m : ℕ) (bytes : List ℕ) (places : List (Option ℕ)) → k ≡ a - n → m ≡ n - a → n ≤ a + length bytes
    → drop n (replicate a None ++ (map Some bytes ++ places)) ≡ replicate k None ++ (map Some (drop m bytes) ++ places)
drop-short zero n zero m bytes places e f le =
    let g : m ≡ n = omega arith in
    rw g (drop-append-le n (map Some bytes) places (omega (arith, length-some bytes)) ∙ ap (λ rest. rest ++ places) (drop-map Some n bytes))
drop-short zero n (suc k) m bytes places e f le = absurd (omega arith)
drop-short (suc a) zero k zero bytes places e f le = let g : k ≡ suc a = omega arith in rw g refl
drop-short (suc a) zero k (suc m) bytes places e f le = absurd (omega arith)
drop-short (suc a) (suc n) k m bytes places e f le = drop-short a n k m bytes places (omega arith) (omega arith) (omega arith)

drop-bytes : (n k : ℕ) (bytes : List ℕ) (places : List (Option ℕ)) → length bytes ≤ n → k ≡ n - length bytes → drop n (map Some bytes ++ places) ≡ drop k places
drop-bytes n k [] places le e = let g : k ≡ n = omega arith in rw g refl
drop-bytes zero k (byte ∷ bytes) places le e = absurd (omega arith)
drop-bytes (suc n) k (byte ∷ bytes) places le e = drop-bytes n k bytes places (omega arith) (omega arith)

drop-long : (a n k : ℕ) (bytes : List ℕ) (places : List (Option ℕ)) → a + length bytes ≤ n → k ≡ n - (a + length bytes)
    → drop n (replicate a None ++ (map Some bytes ++ places)) ≡ drop k places
drop-long zero n k bytes places le e = drop-bytes n k bytes places (omega arith) (omega arith)
drop-long (suc a) zero k bytes places le e = absurd (omega arith)
drop-long (suc a) (suc n) k bytes places le e = drop-long a n k bytes places (omega arith) (omega arith)

pub drop-here : (from to : ℕ) (p : Piece) (ps : List Piece) (end : ℕ) → from ≤ p.at → from ≤ to → to ≤ end_of p → end ≡ end_of p
    → drop (to - from) (spread from (p ∷ ps)) ≡ replicate (max p.at to - to) None ++ (map Some (drop (to - p.at) p.bytes) ++ spread end ps)
drop-here from to p ps end h le past e =
    rw e (drop-short (p.at - from) (to - from) (max p.at to - to) (to - p.at) p.bytes (spread (end_of p) ps) (omega arith) (omega arith) (omega arith))

pub drop-past : (from to : ℕ) (p : Piece) (ps : List Piece) → from ≤ p.at → end_of p ≤ to
    → drop (to - from) (spread from (p ∷ ps)) ≡ drop (to - end_of p) (spread (end_of p) ps)
drop-past from to p ps h le =
    drop-long (p.at - from) (to - from) (to - end_of p) p.bytes (spread (end_of p) ps) (omega arith) (omega arith)
