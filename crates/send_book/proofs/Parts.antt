-- The parts of the written octets, by place.
--
-- What one part of a list of parts lies in (`Written` of `send_book`): all that a search by halves has to promise is
-- that the parts before it end in time; that it is the last such place is no fact of the contract.
use Rattle.std.proofs.Common.{◌≡◌, ◌∙◌, refl, sym, ap, ℕ, zero, suc, ◌+◌, ◌-◌, ◌<◌, ◌≤◌, min, List, [], ◌∷◌, ◌++◌, length, get_or, take, drop, append-nil, append_assoc, length-append, length-drop, ⊎_elim, arith}
use Rattle.std.specs.List.Sorted.{IsNonDecreasingBy}
use Rattle.std.proofs.lemmas.Bool.{cases_lt}
use Rattle.std.proofs.lemmas.List.{take-append-le, drop-append-le, take-append-drop, at_drop_more}
use Rattle.send_book.proofs.KeptMarks.{take-past}
use Rattle.std.proofs.Math.Seq.{take-append-add, drop-append-add}
use Rattle.send_book.specs.declared.written.Part.{Part}
use Rattle.send_book.specs.Written.{joined, Follow}

pub joined-append : (ps qs : List Part) → joined (ps ++ qs) ≡ joined ps ++ joined qs
joined-append [] qs = refl
joined-append (p ∷ ps) qs = ap (λ (rest : List ℕ). p.octets ++ rest) (joined-append ps qs) ∙ sym (append_assoc p.octets (joined ps) (joined qs))

pub joined-push : (ps : List Part) (p : Part) → joined (ps ++ p ∷ []) ≡ joined ps ++ p.octets
joined-push ps p = joined-append ps (p ∷ []) ∙ ap (λ (rest : List ℕ). joined ps ++ rest) (append-nil p.octets)

pub follow-push : (at : ℕ) (ps : List Part) (p : Part) → Follow at ps → p.end ≡ at + length (joined ps) + length p.octets → Follow at (ps ++ p ∷ [])
follow-push at [] p f e = (omega (arith, e), tt)
follow-push at (q ∷ ps) p f e = (f.0, follow-push q.end ps p f.1 (omega (arith, e, f.0, length-append q.octets (joined ps))))

end-from : (at : ℕ) (ps : List Part) (i : ℕ) (d : Part) → Follow at ps → i < length ps → at ≤ (get_or ps i d).end
end-from at [] i d f lt = absurd (omega arith)
end-from at (p ∷ ps) zero d f lt = omega (arith, f.0)
end-from at (p ∷ ps) (suc i) d f lt = omega (arith, f.0, end-from p.end ps i d f.1 (omega arith))

abbrev pub end_of : Part → ℕ
end_of p = p.end

pub follow-rises : (at : ℕ) (ps : List Part) → Follow at ps → IsNonDecreasingBy end_of ps
follow-rises at ps f = λ i j d le lt. rises at ps i j d f le lt
  where
    rises : (at : ℕ) (ps : List Part) (i j : ℕ) (d : Part) → Follow at ps → i ≤ j → j < length ps → (get_or ps i d).end ≤ (get_or ps j d).end
    rises at [] i j d f le lt = absurd (omega arith)
    rises at (p ∷ ps) zero zero d f le lt = omega arith
    rises at (p ∷ ps) zero (suc j) d f le lt = end-from p.end ps j d f.1 (omega arith)
    rises at (p ∷ ps) (suc i) zero d f le lt = absurd (omega arith)
    rises at (p ∷ ps) (suc i) (suc j) d f le lt = rises p.end ps i j d f.1 (omega arith) (omega arith)

-- the place after so many parts is where the last of them ends
pub end_at : (at : ℕ) (ps : List Part) (i : ℕ) (d : Part) → Follow at ps → i < length ps → (get_or ps i d).end ≡ at + length (joined (take (suc i) ps))
end_at at [] i d f lt = absurd (omega arith)
end_at at (p ∷ ps) zero d f lt = omega (arith, f.0, length-append p.octets [])
end_at at (p ∷ ps) (suc i) d f lt = omega (arith, f.0, end_at p.end ps i d f.1 (omega arith), length-append p.octets (joined (take (suc i) ps)))

pub begins_by : (ps : List Part) (place count : ℕ) → Follow 0 ps → count ≤ length ps → ((k : ℕ) (d : Part) → k < count → (get_or ps k d).end ≤ place)
    → length (joined (take count ps)) ≤ place
begins_by ps place zero f le ended = omega arith
begins_by [] place (suc i) f le ended = absurd (omega arith)
begins_by (p ∷ ps) place (suc i) f le ended = omega (arith, end_at 0 (p ∷ ps) i p f (omega arith), ended i p (omega arith))

-- ---- octets behind others
drop-parts : (ps : List Part) (count from : ℕ) → length (joined (take count ps)) ≤ from
    → drop from (joined ps) ≡ drop (from - length (joined (take count ps))) (joined (drop count ps))
drop-parts ps count from le =
    let before = joined (take count ps) in
    let e : from ≡ length before + (from - length before) = omega (arith, le) in
    ap (λ (qs : List Part). drop from (joined qs)) (sym (take-append-drop count ps))
    ∙ ap (drop from) (joined-append (take count ps) (drop count ps))
    ∙ ap (λ (n : ℕ). drop n (before ++ joined (drop count ps))) e
    ∙ drop-append-add before (joined (drop count ps)) (from - length before)

pub cut_parts : (ps : List Part) (first begin from n : ℕ) → begin ≡ length (joined (take first ps)) → begin ≤ from
    → take n (drop (from - begin) (joined (take (length ps - first) (drop first ps)))) ≡ take n (drop from (joined ps))
cut_parts ps first begin from n e le =
    let rest : take (length ps - first) (drop first ps) ≡ drop first ps = take-past (length ps - first) (drop first ps) (omega (arith, length-drop first ps)) in
    ap (λ (qs : List Part). take n (drop (from - begin) (joined qs))) rest
    ∙ ap (λ (b : ℕ). take n (drop (from - b) (joined (drop first ps)))) e
    ∙ ap (take n) (sym (drop-parts ps first from (omega (arith, e, le))))

split_take : (zs ys : List ℕ) (left taken left' : ℕ) → taken ≡ min left (length zs) → left' ≡ left - taken → take left (zs ++ ys) ≡ take taken zs ++ take left' ys
split_take zs ys left taken left' e f =
    ⊎_elim
    (λ lt. let a : taken ≡ left = omega (arith, e, lt) in
    let b : left' ≡ 0 = omega (arith, f, a) in
    take-append-le left zs ys (omega (arith, lt)) ∙ sym (append-nil (take left zs))
    ∙ ap (λ (n : ℕ). take left zs ++ take n ys) (sym b) ∙ ap (λ (n : ℕ). take n zs ++ take left' ys) (sym a))
    (λ ge. let a : taken ≡ length zs = omega (arith, e, ge) in
    let b : left ≡ length zs + left' = omega (arith, f, a, ge) in
    ap (λ (n : ℕ). take n (zs ++ ys)) b ∙ take-append-add zs ys left'
    ∙ ap (λ (xs : List ℕ). xs ++ take left' ys) (sym (take-past taken zs (omega (arith, a)))))
    (cases_lt left (length zs))

gather_step : (xs ys : List ℕ) (passed left from taken passed' left' : ℕ) → from ≡ min passed (length xs) → taken ≡ min left (length xs - from) → passed' ≡ passed - from
    → left' ≡ left - taken → take left (drop passed (xs ++ ys)) ≡ take taken (drop from xs) ++ take left' (drop passed' ys)
gather_step xs ys passed left from taken passed' left' e f g h =
    ⊎_elim
    (λ lt. let a : from ≡ passed = omega (arith, e, lt) in
    let b : passed' ≡ 0 = omega (arith, g, a) in
    let t : taken ≡ min left (length (drop passed xs)) = omega (arith, f, a, length-drop passed xs) in
    ap (take left) (drop-append-le passed xs ys (omega (arith, lt)))
    ∙ split_take (drop passed xs) ys left taken left' t h
    ∙ ap (λ (n : ℕ). take taken (drop passed xs) ++ take left' (drop n ys)) (sym b)
    ∙ ap (λ (n : ℕ). take taken (drop n xs) ++ take left' (drop passed' ys)) (sym a))
    (λ ge. let a : from ≡ length xs = omega (arith, e, ge) in
    let n : taken ≡ 0 = omega (arith, f, a) in
    let m : left' ≡ left = omega (arith, h, n) in
    let p : passed ≡ length xs + passed' = omega (arith, g, a, ge) in
    ap (λ (k : ℕ). take left (drop k (xs ++ ys))) p ∙ ap (take left) (drop-append-add xs ys passed')
    ∙ ap (λ (k : ℕ). take k (drop passed' ys)) (sym m)
    ∙ ap (λ (k : ℕ). take k (drop from xs) ++ take left' (drop passed' ys)) (sym n))
    (cases_lt passed (length xs))

-- the octets of one part more are gathered
pub gathered : (ps : List Part) (i : ℕ) (p : Part) (text part : List ℕ) (passed left from taken passed' left' : ℕ) (wanted : List ℕ) → i < length ps → p ≡ get_or ps i p
    → text ++ take left (drop passed (joined (drop i ps))) ≡ wanted → from ≡ min passed (length p.octets) → taken ≡ min left (length p.octets - from)
    → passed' ≡ passed - from → left' ≡ left - taken → part ≡ take taken (drop from p.octets)
    → (text ++ part) ++ take left' (drop passed' (joined (drop (i + 1) ps))) ≡ wanted
gathered ps i p text part passed left from taken passed' left' wanted lt is so e f g h cut =
    let F : List Part → List ℕ = λ qs. text ++ take left (drop passed (joined qs)) in
    let rest = joined (drop (i + 1) ps) in
    ap (λ (xs : List ℕ). (text ++ xs) ++ take left' (drop passed' rest)) cut
    ∙ append_assoc text (take taken (drop from p.octets)) (take left' (drop passed' rest))
    ∙ ap (λ (xs : List ℕ). text ++ xs) (sym (gather_step p.octets rest passed left from taken passed' left' e f g h))
    ∙ ap (λ (q : Part). F (q ∷ drop (i + 1) ps)) is
    ∙ sym (at_drop_more F ps i p lt)
    ∙ so
