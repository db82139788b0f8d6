-- What is left of pieces at the front and at the back.
use Rattle.std.proofs.Common.{◌≡◌, ℕ, zero, suc, ◌+◌, ◌-◌, ◌<◌, ◌≤◌, max, Option, Some, None, List, [], ◌∷◌, ◌++◌, length, get_or, set, take, drop, map, replicate, refl, sym, ap, ◌∙◌, subst, arith, ⊎_elim}
use Rattle.std.proofs.lemmas.Bool.{cases_lt}
use Rattle.std.proofs.lemmas.List.{length-take, length-drop}
use Rattle.std.proofs.Math.Seq.{drop-nil}
use Rattle.byte_pieces.specs.declared.piece.Piece.{Piece}
use Rattle.byte_pieces.specs.Places.{filled, gap_before, cut}
use Rattle.byte_pieces.specs.Pieces.{end_of, spread, side_by_side_end, AreOrdered, begun_before, cut_end, pieces_from, pieces_below, last_cut}
use Rattle.byte_pieces.proofs.Ordered.{le_true, le_false, lt_true, lt_false, ordered-le}
use Rattle.byte_pieces.proofs.Spreading.{drop-here, drop-past, side_by_side_end-is}

-- ---- the front
pub spread-from : (from to limit : ℕ) (ps : List Piece) → AreOrdered from limit ps → from ≤ to → spread to (pieces_from to ps) ≡ drop (to - from) (spread from ps)
spread-from from to limit [] h le = sym (drop-nil (to - from))
spread-from from to limit (p ∷ ps) h le =
    ⊎_elim
    (λ past. rw (le_false (end_of p) to past)
    (ap (λ end. replicate (max p.at to - to) None ++ (map Some (drop (to - p.at) p.bytes) ++ spread end ps)) (same past)
    ∙ sym (drop-here from to p ps (end_of p) h.0 le (omega arith) refl)))
    (λ ended. rw (le_true (end_of p) to ended)
    (spread-from (end_of p) to limit ps h.2 ended ∙ sym (drop-past from to p ps h.0 ended)))
    (cases_lt to (end_of p))
  where
    same : to < end_of p → max p.at to + length (drop (to - p.at) p.bytes) ≡ end_of p
    same past = omega (arith, length-drop (to - p.at) p.bytes)

pub ordered-from : (from to limit : ℕ) (ps : List Piece) → AreOrdered from limit ps → to ≤ limit → AreOrdered to limit (pieces_from to ps)
ordered-from from to limit [] h le = le
ordered-from from to limit (p ∷ ps) h le =
    ⊎_elim
    (λ past. rw (le_false (end_of p) to past) (
      omega arith,
      omega (arith, length-drop (to - p.at) p.bytes),
      let P : ℕ → Type 0 = λ k. AreOrdered k limit ps in subst P (sym (same past)) h.2,
    ))
    (λ ended. rw (le_true (end_of p) to ended) (ordered-from (end_of p) to limit ps h.2 le))
    (cases_lt to (end_of p))
  where
    same : to < end_of p → max p.at to + length (drop (to - p.at) p.bytes) ≡ end_of p
    same past = omega (arith, length-drop (to - p.at) p.bytes)

-- ---- the back
gap-some : (places : List (Option ℕ)) → 0 < length places → gap_before places ≡ None ∷ places
gap-some [] some = absurd (omega arith)
gap-some (place ∷ places) some = refl

cut-none : (n a : ℕ) (places : List (Option ℕ)) → n ≤ a → cut n (replicate a None ++ places) ≡ []
cut-none zero a places le = refl
cut-none (suc n) zero places le = absurd (omega arith)
cut-none (suc n) (suc a) places le = rw (cut-none n a places (omega arith)) refl

cut-nothing : (n : ℕ) → cut n [] ≡ []
cut-nothing zero = refl
cut-nothing (suc n) = refl

cut-bytes : (n k : ℕ) (bytes : List ℕ) (places : List (Option ℕ)) → k ≡ n - length bytes → cut n (map Some bytes ++ places) ≡ map Some (take n bytes) ++ cut k places
cut-bytes n k [] places e = let g : k ≡ n = omega arith in rw g (none n)
  where
    none : (n : ℕ) → cut n places ≡ map Some (take {A = ℕ} n []) ++ cut n places
    none zero = refl
    none (suc n) = refl
cut-bytes zero k (byte ∷ bytes) places e = let g : k ≡ 0 = omega arith in rw g refl
cut-bytes (suc n) k (byte ∷ bytes) places e = ap (λ rest. Some byte ∷ rest) (cut-bytes n k bytes places (omega arith))

some-left : (a m : ℕ) (bytes : List ℕ) (places : List (Option ℕ)) → 0 < m → 0 < length bytes → 0 < length (replicate a None ++ (map Some (take m bytes) ++ places))
some-left zero zero bytes places h g = absurd (omega arith)
some-left zero (suc m) [] places h g = absurd (omega arith)
some-left zero (suc m) (byte ∷ bytes) places h g = omega arith
some-left (suc a) m bytes places h g = omega arith

cut-gap : (a n m k : ℕ) (bytes : List ℕ) (places : List (Option ℕ)) → a < n → 0 < length bytes → m ≡ n - a → k ≡ n - (a + length bytes)
    → cut n (replicate a None ++ (map Some bytes ++ places)) ≡ replicate a None ++ (map Some (take m bytes) ++ cut k places)
cut-gap zero n m k bytes places lt some e f = let g : m ≡ n = omega arith in rw g (cut-bytes n k bytes places (omega arith))
cut-gap (suc a) zero m k bytes places lt some e f = absurd (omega arith)
cut-gap (suc a) (suc n) m k bytes places lt some e f =
    rw (cut-gap a n m k bytes places (omega arith) some (omega arith) (omega arith))
    (gap-some (replicate a None ++ (map Some (take m bytes) ++ cut k places)) (some-left a m bytes (cut k places) (omega arith) some))

pub pieces_below-nothing : (from to limit : ℕ) (ps : List Piece) → AreOrdered from limit ps → to ≤ from → pieces_below to ps ≡ []
pieces_below-nothing from to limit [] h le = refl
pieces_below-nothing from to limit (p ∷ ps) h le = rw (lt_false p.at to (omega (arith, h.0))) refl

take-whole : (n : ℕ) (bytes : List ℕ) → length bytes ≤ n → take n bytes ≡ bytes
take-whole zero [] le = refl
take-whole (suc n) [] le = refl
take-whole zero (byte ∷ bytes) le = absurd (omega arith)
take-whole (suc n) (byte ∷ bytes) le = ap (λ rest. byte ∷ rest) (take-whole n bytes (omega arith))

cut-whole : (to : ℕ) (p : Piece) → end_of p ≤ to → cut_end to p ≡ p
cut-whole to p le = ap (λ (bytes : List ℕ). record { at = p.at; bytes = bytes }) (take-whole (to - p.at) p.bytes (omega arith))

spread-cut : (from to limit : ℕ) (p : Piece) (ps : List Piece) → AreOrdered (end_of p) limit ps → (end_of p ≤ to → spread (end_of p) (pieces_below to ps) ≡ cut (to - end_of p) (spread (end_of p) ps))
    → p.at < to → spread (end_of (cut_end to p)) (pieces_below to ps) ≡ cut (to - end_of p) (spread (end_of p) ps)
spread-cut from to limit p ps h rest lt =
    ⊎_elim
    (λ past. let none : to - end_of p ≡ 0 = omega arith in
    rw (pieces_below-nothing (end_of p) to limit ps h (omega arith), none) refl)
    (λ ended. ap (λ (q : Piece). spread (end_of q) (pieces_below to ps)) (cut-whole to p ended) ∙ rest ended)
    (cases_lt to (end_of p))

pub spread-below : (from to limit : ℕ) (ps : List Piece) → AreOrdered from limit ps → from ≤ to → spread from (pieces_below to ps) ≡ cut (to - from) (spread from ps)
spread-below from to limit [] h le = sym (cut-nothing (to - from))
spread-below from to limit (p ∷ ps) h le =
    ⊎_elim
    (λ lt. rw (lt_true p.at to lt)
    (ap (λ places. replicate (p.at - from) None ++ (map Some (take (to - p.at) p.bytes) ++ places))
    (spread-cut from to limit p ps h.2 (λ ended. spread-below (end_of p) to limit ps h.2 ended) lt)
    ∙ sym (cut-gap (p.at - from) (to - from) (to - p.at) (to - end_of p) p.bytes (spread (end_of p) ps) (omega (arith, h.0)) h.1 (omega (arith, h.0)) (omega (arith, h.0)))))
    (λ ge. rw (lt_false p.at to ge) (sym (cut-none (to - from) (p.at - from) (map Some p.bytes ++ spread (end_of p) ps) (omega arith))))
    (cases_lt p.at to)

pub ordered-below_cut : (from to limit : ℕ) (ps : List Piece) → AreOrdered from limit ps → AreOrdered from limit (pieces_below to ps)
ordered-below_cut from to limit [] h = h
ordered-below_cut from to limit (p ∷ ps) h =
    let rest = ordered-le (end_of p) limit ps h.2 in
    ⊎_elim
    (λ lt. rw (lt_true p.at to lt) (
      h.0,
      omega (arith, h.1, length-take (to - p.at) p.bytes),
      ⊎_elim
          (λ past. let P : List Piece → Type 0 = λ qs. AreOrdered (end_of (cut_end to p)) limit qs in
          subst P (sym (pieces_below-nothing (end_of p) to limit ps h.2 (omega arith))) (omega (arith, rest, length-take (to - p.at) p.bytes)))
          (λ ended. let P : Piece → Type 0 = λ q. AreOrdered (end_of q) limit (pieces_below to ps) in
          subst P (sym (cut-whole to p ended)) (ordered-below_cut (end_of p) to limit ps h.2))
          (cases_lt to (end_of p)),
    ))
    (λ ge. rw (lt_false p.at to ge) (omega (arith, rest, h.0)))
    (cases_lt p.at to)

-- ---- as the code cuts them: the pieces that begin before, and the last of these made shorter
pub last_cut-set : (to : ℕ) (ps : List Piece) (i : ℕ) (d : Piece) → i + 1 ≡ length ps → set ps i (cut_end to (get_or ps i d)) ≡ last_cut to ps
last_cut-set to [] i d e = absurd (omega arith)
last_cut-set to (p ∷ []) zero d e = refl
last_cut-set to (p ∷ []) (suc i) d e = absurd (omega arith)
last_cut-set to (p ∷ q ∷ ps) zero d e = absurd (omega arith)
last_cut-set to (p ∷ q ∷ ps) (suc i) d e = ap (λ (rest : List Piece). p ∷ rest) (last_cut-set to (q ∷ ps) i d (omega arith))

-- where a piece begins before the position, so does the first one
begun-some : (from to limit i : ℕ) (ps : List Piece) → AreOrdered from limit ps → begun_before to ps ≡ suc i → from < to
begun-some from to limit i [] h e = absurd (omega arith)
begun-some from to limit i (p ∷ ps) h e =
    ⊎_elim (λ lt. omega (arith, h.0)) (λ ge. let f = rw (lt_false p.at to ge) at e in absurd (omega arith)) (cases_lt p.at to)

below-none : (to : ℕ) (ps : List Piece) → begun_before to ps ≡ 0 → pieces_below to ps ≡ []
below-none to [] e = refl
below-none to (p ∷ ps) e =
    ⊎_elim (λ lt. let f = rw (lt_true p.at to lt) at e in absurd (omega arith)) (λ ge. rw (lt_false p.at to ge) refl) (cases_lt p.at to)

last_cut-take : (from to limit k : ℕ) (ps : List Piece) → AreOrdered from limit ps → k ≡ begun_before to ps → last_cut to (take k ps) ≡ pieces_below to ps
last_cut-take from to limit zero ps h e = sym (below-none to ps (sym e))
last_cut-take from to limit (suc k) [] h e = absurd (omega arith)
last_cut-take from to limit (suc k) (p ∷ ps) h e =
    ⊎_elim
    (λ lt. let f = rw (lt_true p.at to lt) at e in rw (lt_true p.at to lt) (step k ps h.2 (omega arith) lt (last_cut-take (end_of p) to limit k ps h.2 (omega arith))))
    (λ ge. let f = rw (lt_false p.at to ge) at e in absurd (omega arith))
    (cases_lt p.at to)
  where
    step : (k : ℕ) (ps : List Piece) → AreOrdered (end_of p) limit ps → k ≡ begun_before to ps → p.at < to → last_cut to (take k ps) ≡ pieces_below to ps
        → last_cut to (p ∷ take k ps) ≡ cut_end to p ∷ pieces_below to ps
    step zero ps h e lt rest = ap (λ (qs : List Piece). cut_end to p ∷ qs) (sym (below-none to ps (sym e)))
    step (suc k) [] h e lt rest = absurd (omega arith)
    step (suc k) (q ∷ ps) h e lt rest =
        ap (λ (qs : List Piece). p ∷ qs) rest
        ∙ ap (λ (r : Piece). r ∷ pieces_below to (q ∷ ps)) (sym (cut-whole to p (let before = begun-some (end_of p) to limit k (q ∷ ps) h (sym e) in omega arith)))

pub pieces_below-taken : (from to limit k : ℕ) (ps kept : List Piece) → AreOrdered from limit ps → k ≡ begun_before to ps → kept ≡ take k ps → last_cut to kept ≡ pieces_below to ps
pieces_below-taken from to limit k ps kept h e f = ap (last_cut to) f ∙ last_cut-take from to limit k ps h e

-- ---- the bytes before the first position without one
filled-drop : (n : ℕ) (places : List (Option ℕ)) → n ≤ length (filled places) → n + length (filled (drop n places)) ≡ length (filled places)
filled-drop zero places le = omega arith
filled-drop (suc n) [] le = absurd (omega arith)
filled-drop (suc n) (None ∷ places) le = absurd (omega arith)
filled-drop (suc n) (Some byte ∷ places) le = omega (arith, filled-drop n places (omega arith))

pub side_by_side_end-from : (from to limit : ℕ) (ps : List Piece) → AreOrdered from limit ps → from ≤ to → to ≤ limit → to ≤ side_by_side_end from ps
    → side_by_side_end to (pieces_from to ps) ≡ side_by_side_end from ps
side_by_side_end-from from to limit ps h le most within =
    let end = side_by_side_end-is from limit ps h in
    let dropped = filled-drop (to - from) (spread from ps) (omega (arith, end, within, le)) in
    side_by_side_end-is to limit (pieces_from to ps) (ordered-from from to limit ps h most)
    ∙ rw (spread-from from to limit ps h le) (omega (arith, dropped, end, le))
