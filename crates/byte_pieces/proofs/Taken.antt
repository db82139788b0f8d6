-- The first octets of parts: those of the first part, and then as many fewer of the others.
use Rattle.std.proofs.Common.{◌≡◌, ◌∙◌, refl, ap, ℕ, zero, suc, ◌-◌, min, List, [], ◌∷◌, ◌++◌, length, take, arith}

append-assoc : (xs ys zs : List ℕ) → (xs ++ ys) ++ zs ≡ xs ++ (ys ++ zs)
append-assoc [] ys zs = refl
append-assoc (x ∷ xs) ys zs = ap (λ rest. x ∷ rest) (append-assoc xs ys zs)

taken-parts : (left taken others : ℕ) (part rest : List ℕ) → taken ≡ min left (length part) → others ≡ left - taken
    → take taken part ++ take others rest ≡ take left (part ++ rest)
taken-parts left taken others [] rest e f =
    let none : taken ≡ 0 = omega (arith, e) in let all : others ≡ left = omega (arith, f, none) in
    ap (λ n. take {A = ℕ} n [] ++ take others rest) none ∙ ap (λ n. take n rest) all
taken-parts zero taken others (x ∷ part) rest e f =
    let none : taken ≡ 0 = omega (arith, e) in let no : others ≡ 0 = omega (arith, f) in
    ap (λ n. take n (x ∷ part) ++ take others rest) none ∙ ap (λ n. take n rest) no
taken-parts (suc left) zero others (x ∷ part) rest e f = absurd (omega (arith, e))
taken-parts (suc left) (suc taken) others (x ∷ part) rest e f =
    ap (λ xs. x ∷ xs) (taken-parts left taken others part rest (omega (arith, e)) (omega (arith, f)))

pub part-taken : (before : List ℕ) (left taken others : ℕ) (part rest : List ℕ) → taken ≡ min left (length part) → others ≡ left - taken
    → (before ++ take taken part) ++ take others rest ≡ before ++ take left (part ++ rest)
part-taken before left taken others part rest e f =
    append-assoc before (take taken part) (take others rest) ∙ ap (λ xs. before ++ xs) (taken-parts left taken others part rest e f)
