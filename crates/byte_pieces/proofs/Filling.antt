-- Bytes that are put where none are.
--
-- Pieces in order behind a list of places: what is to be put is one recursion over pieces and bytes (`fresh`), the list
-- with it another (`filled_in`), so that one lemma says what its places are, and another that putting the parts one by
-- one comes to it (`with_pieces-fresh`). Lemmas on `replicate a None ++ (map Some bytes ++ ..)` take the numbers as
-- variables.
--
-- A list that ends with a place that has a byte is kept so by `drop` and by putting; only a cut at the end needs a word
-- of its own (`cut`, `gap_before`).
use Rattle.std.proofs.Common.{◌≡◌, ℕ, zero, suc, ◌+◌, ◌-◌, ◌<◌, ◌≤◌, max, min, Option, Some, None, List, [], ◌∷◌, ◌++◌, length, take, drop, map, replicate, refl, sym, ap, ◌∙◌, subst, arith, ⊎_elim, append-nil}
use Rattle.std.specs.List.{sum_by}
use Rattle.std.proofs.lemmas.Bool.{cases_lt}
use Rattle.std.proofs.lemmas.List.{length-take, length-drop, drop-drop}
use Rattle.std.proofs.lemmas.List.Sums.{sum_by-cons, sum_by-append}
use Rattle.std.proofs.Math.Seq.{drop-nil}
use Rattle.byte_pieces.specs.declared.piece.Piece.{Piece}
use Rattle.byte_pieces.specs.Places.{by_place, merged}
use Rattle.byte_pieces.specs.Pieces.{end_of, piece_len, spread, AreOrdered, piece_of, fresh, begun_before, with_piece, with_pieces}
use Rattle.byte_pieces.proofs.Ordered.{lt_true, lt_false, ordered-le}

-- the pieces with these bytes in their gaps
abbrev pub filled_in : ℕ → List ℕ → List Piece → List Piece
filled_in at bytes [] = piece_of at bytes
filled_in at bytes (p ∷ ps) =
    piece_of at (take (p.at - at) bytes) ++ (p ∷ filled_in (max at (end_of p)) (drop (end_of p - at) bytes) ps)

-- ---- putting them one by one
abbrev pub AllPast : ℕ → List Piece → Type 0
AllPast at [] = Unit {0}
AllPast at (p ∷ ps) = (at < p.at) × AllPast at ps

past-piece_of : (k at : ℕ) (bytes : List ℕ) (ps : List Piece) → k < at → AllPast k ps → AllPast k (piece_of at bytes ++ ps)
past-piece_of k at [] ps lt h = h
past-piece_of k at (byte ∷ bytes) ps lt h = (lt, h)

past-fresh : (k at : ℕ) (bytes : List ℕ) (ps : List Piece) → k < at → AllPast k (fresh at bytes ps)
past-fresh k at [] [] lt = tt
past-fresh k at (byte ∷ bytes) [] lt = (lt, tt)
past-fresh k at bytes (p ∷ ps) lt =
    past-piece_of k at (take (p.at - at) bytes) (fresh (max at (end_of p)) (drop (end_of p - at) bytes) ps) lt
    (past-fresh k (max at (end_of p)) (drop (end_of p - at) bytes) ps (omega arith))

with_pieces-past : (p : Piece) (qs ps : List Piece) → AllPast p.at qs → with_pieces qs (p ∷ ps) ≡ p ∷ with_pieces qs ps
with_pieces-past p [] ps h = refl
with_pieces-past p (q ∷ qs) ps h = rw (lt_true p.at q.at h.0) (with_pieces-past p qs (with_piece q ps) h.1)

one-piece : (at : ℕ) (bytes : List ℕ) → with_pieces (piece_of at bytes) [] ≡ piece_of at bytes
one-piece at [] = refl
one-piece at (byte ∷ bytes) = refl

front-piece : (at : ℕ) (bytes : List ℕ) (p : Piece) (qs ps : List Piece) → length bytes ≤ p.at - at → AllPast p.at qs
    → with_pieces (piece_of at bytes ++ qs) (p ∷ ps) ≡ piece_of at bytes ++ (p ∷ with_pieces qs ps)
front-piece at [] p qs ps few h = with_pieces-past p qs ps h
front-piece at (byte ∷ bytes) p qs ps few h =
    rw (lt_false p.at at (omega arith))
    (with_pieces-past first qs (p ∷ ps) (earlier qs h) ∙ ap (λ (rest : List Piece). first ∷ rest) (with_pieces-past p qs ps h))
  where
    first : Piece
    first = record { at = at; bytes = byte ∷ bytes }

    earlier : (qs : List Piece) → AllPast p.at qs → AllPast at qs
    earlier [] h = tt
    earlier (q ∷ qs) h = (omega (arith, h.0, few), earlier qs h.1)

pub with_pieces-fresh : (from to at : ℕ) (bytes : List ℕ) (ps : List Piece) → AreOrdered from to ps → with_pieces (fresh at bytes ps) ps ≡ filled_in at bytes ps
with_pieces-fresh from to at bytes [] h = one-piece at bytes
with_pieces-fresh from to at bytes (p ∷ ps) h =
    front-piece at (take (p.at - at) bytes) p (fresh (max at (end_of p)) (drop (end_of p - at) bytes) ps) ps
    (omega (arith, length-take (p.at - at) bytes))
    (past-fresh p.at (max at (end_of p)) (drop (end_of p - at) bytes) ps (omega (arith, h.1)))
    ∙ ap (λ (rest : List Piece). piece_of at (take (p.at - at) bytes) ++ (p ∷ rest))
    (with_pieces-fresh (end_of p) to (max at (end_of p)) (drop (end_of p - at) bytes) ps h.2)

-- ---- no bytes
take-nil : (n : ℕ) → take {A = ℕ} n [] ≡ []
take-nil zero = refl
take-nil (suc n) = refl

filled_in-nothing : (at : ℕ) (ps : List Piece) → filled_in at [] ps ≡ ps
filled_in-nothing at [] = refl
filled_in-nothing at (p ∷ ps) =
    rw (take-nil (p.at - at), drop-nil {A = ℕ} (end_of p - at))
    (ap (λ (rest : List Piece). p ∷ rest) (filled_in-nothing (max at (end_of p)) ps))

pub fresh-nothing : (at : ℕ) (ps : List Piece) → fresh at [] ps ≡ []
fresh-nothing at [] = refl
fresh-nothing at (p ∷ ps) = rw (take-nil (p.at - at), drop-nil {A = ℕ} (end_of p - at)) (fresh-nothing (max at (end_of p)) ps)

-- ---- they stay in order
pub ordered-filled_in : (from to at : ℕ) (bytes : List ℕ) (ps : List Piece) → AreOrdered from to ps → from ≤ at → at + length bytes ≤ to
    → AreOrdered from to (filled_in at bytes ps)
ordered-filled_in from to at [] [] h le fits = h
ordered-filled_in from to at (byte ∷ bytes) [] h le fits = (le, omega arith, fits)
ordered-filled_in from to at bytes (p ∷ ps) h le fits =
    first (take (p.at - at) bytes) (length-take (p.at - at) bytes)
    (ordered-filled_in (end_of p) to (max at (end_of p)) (drop (end_of p - at) bytes) ps h.2 (omega arith)
    (omega (arith, length-drop (end_of p - at) bytes, ordered-le (end_of p) to ps h.2)))
  where
    first : (front : List ℕ) → length front ≡ min (p.at - at) (length bytes)
        → AreOrdered (end_of p) to (filled_in (max at (end_of p)) (drop (end_of p - at) bytes) ps)
        → AreOrdered from to (piece_of at front ++ (p ∷ filled_in (max at (end_of p)) (drop (end_of p - at) bytes) ps))
    first [] e rest = (h.0, h.1, rest)
    first (byte ∷ front) e rest = (le, omega arith, (omega arith, h.1, rest))

-- ---- how many they are
pub sum-piece_of : (at : ℕ) (bytes : List ℕ) → sum_by piece_len (piece_of at bytes) ≡ length bytes
sum-piece_of at [] = refl
sum-piece_of at (byte ∷ bytes) = omega (arith, sum_by-cons piece_len (record { at = at; bytes = byte ∷ bytes }) [])

pub sum-filled_in : (at : ℕ) (bytes : List ℕ) (ps : List Piece) → sum_by piece_len (fresh at bytes ps) + sum_by piece_len ps ≡ sum_by piece_len (filled_in at bytes ps)
sum-filled_in at bytes [] = omega arith
sum-filled_in at bytes (p ∷ ps) =
    let front = piece_of at (take (p.at - at) bytes) in
    let left = drop (end_of p - at) bytes in
    let one = sum_by-append piece_len front (fresh (max at (end_of p)) left ps) in
    let two = sum_by-append piece_len front (p ∷ filled_in (max at (end_of p)) left ps) in
    let three = sum_by-cons piece_len p (filled_in (max at (end_of p)) left ps) in
    let four = sum_by-cons piece_len p ps in
    omega (arith, one, two, three, four, sum-filled_in (max at (end_of p)) left ps)

pub sum-fresh : (at : ℕ) (bytes : List ℕ) (ps : List Piece) → sum_by piece_len (fresh at bytes ps) ≤ length bytes
sum-fresh at bytes [] = omega (arith, sum-piece_of at bytes)
sum-fresh at bytes (p ∷ ps) =
    let front = piece_of at (take (p.at - at) bytes) in
    let left = drop (end_of p - at) bytes in
    let one = sum_by-append piece_len front (fresh (max at (end_of p)) left ps) in
    omega (arith, one, sum-piece_of at (take (p.at - at) bytes), length-take (p.at - at) bytes, length-drop (end_of p - at) bytes, sum-fresh (max at (end_of p)) left ps)

-- ---- their places
pub merged-nil : (places : List (Option ℕ)) → merged places [] ≡ places
merged-nil [] = refl
merged-nil (Some byte ∷ places) = refl
merged-nil (None ∷ places) = refl

pub by_place-zero : (bytes : List ℕ) → by_place 0 bytes ≡ map Some bytes
by_place-zero [] = refl
by_place-zero (byte ∷ bytes) = refl

-- empty places that both have stay
merged-gap : (a l k : ℕ) (places : List (Option ℕ)) (bytes : List ℕ) → a ≤ l → k ≡ l - a
    → merged (replicate a None ++ places) (by_place l bytes) ≡ replicate a None ++ merged places (by_place k bytes)
merged-gap zero l k places bytes le e = let g : k ≡ l = omega arith in rw g refl
merged-gap (suc a) zero k places bytes le e = absurd (omega arith)
merged-gap (suc a) (suc l) k places [] le e = rw (merged-nil places) refl
merged-gap (suc a) (suc l) k places (byte ∷ bytes) le e = ap (λ rest. None ∷ rest) (merged-gap a l k places (byte ∷ bytes) (omega arith) (omega arith))

-- bytes in empty places, as far as these go
merged-empty : (c k : ℕ) (places : List (Option ℕ)) (bytes : List ℕ) → k ≡ c - length (take c bytes)
    → merged (replicate c None ++ places) (map Some bytes) ≡ map Some (take c bytes) ++ (replicate k None ++ merged places (map Some (drop c bytes)))
merged-empty zero k places bytes e = let g : k ≡ 0 = omega arith in rw g refl
merged-empty (suc c) k places [] e = let g : k ≡ suc c = omega arith in rw (g, merged-nil places) refl
merged-empty (suc c) k places (byte ∷ bytes) e = ap (λ rest. Some byte ∷ rest) (merged-empty c k places bytes (omega arith))

-- bytes that are kept stay
merged-kept : (old : List ℕ) (m k n : ℕ) (places : List (Option ℕ)) (bytes : List ℕ) → k ≡ m - length old → n ≡ length old - m
    → merged (map Some old ++ places) (by_place m bytes) ≡ map Some old ++ merged places (by_place k (drop n bytes))
merged-kept [] m k n places bytes e f = let g : k ≡ m = omega arith in let h : n ≡ 0 = omega arith in rw (g, h) refl
merged-kept (x ∷ old) m k n places [] e f =
    rw (drop-nil {A = ℕ} n, merged-nil places) refl
merged-kept (x ∷ old) zero k zero places (byte ∷ bytes) e f = absurd (omega arith)
merged-kept (x ∷ old) zero k (suc n) places (byte ∷ bytes) e f =
    ap (λ rest. Some x ∷ rest) (ap (merged (map Some old ++ places)) (sym (by_place-zero bytes)) ∙ merged-kept old 0 k n places bytes (omega arith) (omega arith))
merged-kept (x ∷ old) (suc m) k n places (byte ∷ bytes) e f =
    ap (λ rest. Some x ∷ rest) (merged-kept old m k n places (byte ∷ bytes) (omega arith) (omega arith))

spread-piece_of : (from at : ℕ) (bytes : List ℕ) → spread from (piece_of at bytes) ≡ by_place (at - from) bytes
spread-piece_of from at [] = refl
spread-piece_of from at (byte ∷ bytes) = ap (λ rest. replicate (at - from) None ++ rest) (append-nil (map Some (byte ∷ bytes)))

-- the bytes before a piece, and what follows
spread-front : (from at : ℕ) (front : List ℕ) (qs : List Piece) (p : Piece) → from ≤ at → at + length front ≤ p.at
    → spread from (piece_of at front ++ (p ∷ qs))
    ≡ replicate (at - from) None ++ (map Some front ++ (replicate (p.at - (at + length front)) None ++ (map Some p.bytes ++ spread (end_of p) qs)))
spread-front from at [] qs p le before = split (at - from) (p.at - (at + 0)) (p.at - from) (omega arith)
  where
    split : (a b c : ℕ) → c ≡ a + b → replicate c None ++ (map Some p.bytes ++ spread (end_of p) qs) ≡ replicate a None ++ (replicate b None ++ (map Some p.bytes ++ spread (end_of p) qs))
    split zero b c e = let g : c ≡ b = omega arith in rw g refl
    split (suc a) b zero e = absurd (omega arith)
    split (suc a) b (suc c) e = ap (λ rest. None ∷ rest) (split a b c (omega arith))
spread-front from at (byte ∷ front) qs p le before = refl

-- where the bytes begin before the piece
spread-before : (from at : ℕ) (bytes : List ℕ) (p : Piece) (ps qs : List Piece) → from ≤ at → at ≤ p.at
    → spread (end_of p) qs ≡ merged (spread (end_of p) ps) (by_place 0 (drop (end_of p - at) bytes))
    → spread from (piece_of at (take (p.at - at) bytes) ++ (p ∷ qs)) ≡ merged (spread from (p ∷ ps)) (by_place (at - from) bytes)
spread-before from at bytes p ps qs le before rest =
    spread-front from at (take (p.at - at) bytes) qs p le (omega (arith, length-take (p.at - at) bytes))
    ∙ ap (λ places. replicate (at - from) None ++ places)
    (ap (λ places. map Some (take (p.at - at) bytes) ++ (replicate (p.at - (at + length (take (p.at - at) bytes))) None ++ places)) kept
    ∙ sym (merged-empty (p.at - at) (p.at - (at + length (take (p.at - at) bytes))) (map Some p.bytes ++ spread (end_of p) ps) bytes (omega arith)))
    ∙ sym whole
  where
    kept : map Some p.bytes ++ spread (end_of p) qs ≡ merged (map Some p.bytes ++ spread (end_of p) ps) (map Some (drop (p.at - at) bytes))
    kept =
        ap (λ places. map Some p.bytes ++ places) rest
        ∙ ap (λ n. map Some p.bytes ++ merged (spread (end_of p) ps) (by_place 0 (drop n bytes))) (omega arith)
        ∙ ap (λ left. map Some p.bytes ++ merged (spread (end_of p) ps) (by_place 0 left)) (sym (drop-drop (length p.bytes) (p.at - at) bytes))
        ∙ sym (merged-kept p.bytes 0 0 (length p.bytes) (spread (end_of p) ps) (drop (p.at - at) bytes) (omega arith) (omega arith))
        ∙ ap (merged (map Some p.bytes ++ spread (end_of p) ps)) (by_place-zero (drop (p.at - at) bytes))

    more : (a b c : ℕ) (places : List (Option ℕ)) → c ≡ a + b → replicate c None ++ places ≡ replicate a None ++ (replicate b None ++ places)
    more zero b c places e = let g : c ≡ b = omega arith in rw g refl
    more (suc a) b zero places e = absurd (omega arith)
    more (suc a) b (suc c) places e = ap (λ rest. None ∷ rest) (more a b c places (omega arith))

    whole : merged (spread from (p ∷ ps)) (by_place (at - from) bytes)
        ≡ replicate (at - from) None ++ merged (replicate (p.at - at) None ++ (map Some p.bytes ++ spread (end_of p) ps)) (map Some bytes)
    whole =
        ap (λ places. merged places (by_place (at - from) bytes)) (more (at - from) (p.at - at) (p.at - from) (map Some p.bytes ++ spread (end_of p) ps) (omega arith))
        ∙ merged-gap (at - from) (at - from) 0 (replicate (p.at - at) None ++ (map Some p.bytes ++ spread (end_of p) ps)) bytes (omega arith) (omega arith)
        ∙ ap (λ others. replicate (at - from) None ++ merged (replicate (p.at - at) None ++ (map Some p.bytes ++ spread (end_of p) ps)) others) (by_place-zero bytes)

-- where the bytes begin in or past the piece
spread-after : (from at : ℕ) (bytes : List ℕ) (p : Piece) (ps qs : List Piece) → from ≤ p.at → p.at ≤ at
    → spread (end_of p) qs ≡ merged (spread (end_of p) ps) (by_place (at - end_of p) (drop (end_of p - at) bytes))
    → spread from (p ∷ qs) ≡ merged (spread from (p ∷ ps)) (by_place (at - from) bytes)
spread-after from at bytes p ps qs le past rest =
    ap (λ places. replicate (p.at - from) None ++ (map Some p.bytes ++ places)) rest
    ∙ ap (λ places. replicate (p.at - from) None ++ places)
    (sym (merged-kept p.bytes (at - p.at) (at - end_of p) (end_of p - at) (spread (end_of p) ps) bytes (omega arith) (omega arith)))
    ∙ sym (merged-gap (p.at - from) (at - from) (at - p.at) (map Some p.bytes ++ spread (end_of p) ps) bytes (omega arith) (omega arith))

pub spread-filled_in : (from to at : ℕ) (bytes : List ℕ) (ps : List Piece) → AreOrdered from to ps → from ≤ at
    → spread from (filled_in at bytes ps) ≡ merged (spread from ps) (by_place (at - from) bytes)
spread-filled_in from to at bytes [] h le = spread-piece_of from at bytes
spread-filled_in from to at bytes (p ∷ ps) h le =
    let left : List ℕ = drop (end_of p - at) bytes in
    let qs : List Piece = filled_in (max at (end_of p)) left ps in
    let rest : spread (end_of p) qs ≡ merged (spread (end_of p) ps) (by_place (max at (end_of p) - end_of p) left)
    = spread-filled_in (end_of p) to (max at (end_of p)) left ps h.2 (omega arith) in
    ⊎_elim
    (λ (lt : at < p.at). let e : max at (end_of p) - end_of p ≡ 0 = omega arith in
    spread-before from at bytes p ps qs le (omega arith) (rest ∙ ap (λ n. merged (spread (end_of p) ps) (by_place n left)) e))
    (λ (ge : p.at ≤ at). let e : max at (end_of p) - end_of p ≡ at - end_of p = omega arith in
    ap (λ (front : List ℕ). spread from (piece_of at front ++ (p ∷ qs))) (none ge)
    ∙ spread-after from at bytes p ps qs h.0 ge (rest ∙ ap (λ n. merged (spread (end_of p) ps) (by_place n left)) e))
    (cases_lt at p.at)
  where
    none : p.at ≤ at → take (p.at - at) bytes ≡ []
    none ge = let e : p.at - at ≡ 0 = omega arith in rw e refl

-- ---- pieces that end before the bytes begin
pub fresh-passed : (at : ℕ) (bytes : List ℕ) (p : Piece) (ps : List Piece) → end_of p ≤ at → fresh at bytes (p ∷ ps) ≡ fresh at bytes ps
fresh-passed at bytes p ps le =
    let a : p.at - at ≡ 0 = omega arith in
    let b : max at (end_of p) ≡ at = omega arith in
    let c : end_of p - at ≡ 0 = omega arith in
    rw (a, b, c) refl

pub begun-from : (from to at k : ℕ) (ps : List Piece) → AreOrdered from to ps → begun_before at ps ≡ suc k → from < at
begun-from from to at k [] h e = absurd (omega arith)
begun-from from to at k (p ∷ ps) h e =
    ⊎_elim (λ lt. omega (arith, h.0)) (λ ge. let f = rw (lt_false p.at at ge) at e in absurd (omega arith)) (cases_lt p.at at)

pub fresh-begun : (from to at : ℕ) (bytes : List ℕ) (ps : List Piece) (k : ℕ) → AreOrdered from to ps → k ≡ begun_before at ps - 1
    → fresh at bytes (drop k ps) ≡ fresh at bytes ps
fresh-begun from to at bytes ps zero h e = refl
fresh-begun from to at bytes [] (suc k) h e = absurd (omega arith)
fresh-begun from to at bytes (p ∷ ps) (suc k) h e =
    ⊎_elim
    (λ lt. let f : suc k ≡ suc (begun_before at ps) - 1 = rw (lt_true p.at at lt) at e in
    let some : begun_before at ps ≡ suc k = omega arith in
    let passed : end_of p < at = begun-from (end_of p) to at k ps h.2 some in
    fresh-begun (end_of p) to at bytes ps k h.2 (omega arith) ∙ sym (fresh-passed at bytes p ps (omega arith)))
    (λ ge. let f : suc k ≡ 0 - 1 = rw (lt_false p.at at ge) at e in absurd (omega arith))
    (cases_lt p.at at)

-- ---- bytes below the first position that counts
drop-some : (n : ℕ) (bytes : List ℕ) → drop n (map Some bytes) ≡ map Some (drop n bytes)
drop-some zero bytes = refl
drop-some (suc n) [] = refl
drop-some (suc n) (byte ∷ bytes) = drop-some n bytes

pub drop-min : (n k : ℕ) (bytes : List ℕ) → k ≡ min n (length bytes) → drop k bytes ≡ drop n bytes
drop-min zero zero bytes e = refl
drop-min zero (suc k) bytes e = absurd (omega (arith, e))
drop-min (suc n) zero [] e = refl
drop-min (suc n) (suc k) [] e = refl
drop-min (suc n) zero (byte ∷ bytes) e = absurd (omega (arith, e))
drop-min (suc n) (suc k) (byte ∷ bytes) e = drop-min n k bytes (omega (arith, e))

pub take-min : (n k : ℕ) (bytes : List ℕ) → k ≡ min n (length bytes) → take k bytes ≡ take n bytes
take-min zero zero bytes e = refl
take-min zero (suc k) bytes e = absurd (omega (arith, e))
take-min (suc n) zero [] e = refl
take-min (suc n) (suc k) [] e = refl
take-min (suc n) zero (byte ∷ bytes) e = absurd (omega (arith, e))
take-min (suc n) (suc k) (byte ∷ bytes) e = ap (λ rest. byte ∷ rest) (take-min n k bytes (omega (arith, e)))

pub drop-by_place : (place at lead known : ℕ) (bytes : List ℕ) → lead ≡ at - place → known ≡ min (place - at) (length bytes)
    → by_place lead (drop known bytes) ≡ drop place (by_place at bytes)
drop-by_place zero at lead zero bytes e f = ap (λ n. by_place n bytes) (e ∙ omega arith)
drop-by_place zero at lead (suc known) bytes e f = absurd (omega (arith, f))
drop-by_place (suc place) zero (suc lead) known bytes e f = absurd (omega (arith, e))
drop-by_place (suc place) zero zero known bytes e f =
    ap (by_place 0) (drop-min (suc place) known bytes (f ∙ omega arith))
    ∙ by_place-zero (drop (suc place) bytes)
    ∙ sym (drop-some (suc place) bytes)
    ∙ ap (drop (suc place)) (sym (by_place-zero bytes))
drop-by_place (suc place) (suc at) lead known [] e f = ap (by_place lead) (drop-nil {A = ℕ} known)
drop-by_place (suc place) (suc at) lead known (byte ∷ bytes) e f =
    drop-by_place place at lead known (byte ∷ bytes) (omega (arith, e)) (omega (arith, f))

pub take-rest : (n k : ℕ) (bytes : List ℕ) → k ≡ length bytes - n → take k (drop n bytes) ≡ drop n bytes
take-rest zero k [] e = take-nil k
take-rest zero zero (byte ∷ bytes) e = absurd (omega (arith, e))
take-rest zero (suc k) (byte ∷ bytes) e = ap (λ rest. byte ∷ rest) (take-rest zero k bytes (omega (arith, e)))
take-rest (suc n) k [] e = take-nil k
take-rest (suc n) k (byte ∷ bytes) e = take-rest n k bytes (omega (arith, e))

-- ---- all of it: the fresh parts of the bytes from the first position that counts are put one by one
pub record IsPut (from at limit : ℕ) (bytes : List ℕ) (ps parts qs : List Piece) : Type 0 where
  pub places : spread from qs ≡ merged (spread from ps) (drop from (by_place at bytes))
  pub order : AreOrdered from limit qs
  pub count : sum_by piece_len parts + sum_by piece_len ps ≡ sum_by piece_len qs
  pub few : sum_by piece_len parts ≤ length bytes

pub is_put : (from at limit passed first : ℕ) (bytes rest : List ℕ) (ps parts qs : List Piece) → AreOrdered from limit ps → at + length bytes ≤ limit
    → passed ≡ min (length bytes) (from - at) → first ≡ max from at → rest ≡ take (length bytes - passed) (drop passed bytes)
    → parts ≡ fresh first rest ps → qs ≡ with_pieces parts ps → IsPut from at limit bytes ps parts qs
is_put from at limit passed first bytes rest ps parts qs h fits e f g fresh_is put = record {
  places = ap (spread from) whole ∙ spread-filled_in from limit first rest ps h (omega arith) ∙ ap (merged (spread from ps)) where_they_stand;
  order = subst (λ (rs : List Piece). AreOrdered from limit rs) (sym whole)
      (ordered-filled_in from limit first rest ps h (omega arith) (omega (arith, left, ordered-le from limit ps h)));
  count = ap (λ (rs : List Piece). sum_by piece_len rs + sum_by piece_len ps) fresh_is ∙ sum-filled_in first rest ps ∙ ap (sum_by piece_len) (sym whole);
  few = omega (arith, ap (sum_by piece_len) fresh_is, sum-fresh first rest ps, left);
}
  where
    dropped : rest ≡ drop passed bytes
    dropped = g ∙ take-rest passed (length bytes - passed) bytes refl

    left : length rest ≡ length bytes - passed
    left = ap length dropped ∙ length-drop passed bytes

    whole : qs ≡ filled_in first rest ps
    whole = put ∙ ap (λ (rs : List Piece). with_pieces rs ps) fresh_is ∙ with_pieces-fresh from limit first rest ps h

    where_they_stand : by_place (first - from) rest ≡ drop from (by_place at bytes)
    where_they_stand = ap (by_place (first - from)) dropped ∙ drop-by_place from at (first - from) passed bytes (omega arith) (omega arith)

-- the same where the rest is told by what is dropped
pub is_put_from : (from at limit first : ℕ) (bytes rest : List ℕ) (ps parts qs : List Piece) → AreOrdered from limit ps → at + length bytes ≤ limit
    → first ≡ max from at → rest ≡ drop (from - at) bytes → parts ≡ fresh first rest ps → qs ≡ with_pieces parts ps → IsPut from at limit bytes ps parts qs
is_put_from from at limit first bytes rest ps parts qs h fits f g fresh_is put =
    let passed : ℕ = min (length bytes) (from - at) in
    is_put from at limit passed first bytes rest ps parts qs h fits refl f
    (g ∙ sym (drop-min (from - at) passed bytes (omega arith)) ∙ sym (take-rest passed (length bytes - passed) bytes refl))
    fresh_is put
