-- Sums that stand still at their end.
use Rattle.std.proofs.Common.{◌≡◌, ◌∙◌, sym, ap, ℕ, zero, suc, ◌+◌, ◌-◌, ◌*◌, ◌^◌, ◌<◌, ◌≤◌, ◌⊎◌, inl, inr, min, Bool, List, [], drop, length, arith}
use Rattle.std.proofs.Math.Nat.{suc-mul, zero-mul}
use Rattle.std.proofs.lemmas.Bool.{cases_lt}
use Rattle.std.proofs.lemmas.List.{at_drop_all}
use Rattle.range_marks.specs.Marks.{Marks, no_marks}
use Rattle.link_trace.specs.declared.carried.Carried.{Carried}
use Rattle.link_trace.specs.declared.rows.Shares.{Shares}
use Rattle.link_trace.specs.Rows.{again_behind, capped, fresh_behind, moved_behind, shares_of}

-- a term more
pub capped_more : (sum term rest : ℕ) → capped (capped (sum + term) + rest) ≡ capped (sum + (term + rest))
capped_more sum term rest = omega arith

-- of a factor that stands still at its end
pub capped_product : (window factor : ℕ) → capped (window * capped factor) ≡ capped (window * factor)
capped_product zero factor = ap capped (zero-mul (capped factor) ∙ sym (zero-mul factor))
capped_product (suc n) factor = let few = suc-mul n (capped factor) in let many = suc-mul n factor in by (cases_lt factor (2 ^ 64)) few many
  where
    by : (factor < 2 ^ 64) ⊎ (2 ^ 64 ≤ factor) → suc n * capped factor ≡ n * capped factor + capped factor → suc n * factor ≡ n * factor + factor
        → capped (suc n * capped factor) ≡ capped (suc n * factor)
    by (inl below) few many = let same : capped factor ≡ factor = omega (arith, below) in ap (λ (f : ℕ). capped (suc n * f)) same
    by (inr above) few many = omega (arith, above, few, many)

abbrev shares : ℕ → ℕ → ℕ → Shares
shares again moved fresh = record { again = again; moved = moved; fresh = fresh }

-- no segment is left
pub shares_end : (path : ℕ) (direction : List Carried) (i : ℕ) → length direction ≤ i → (again moved fresh edge : ℕ) (places : Marks Bool) → again < 2 ^ 64 → moved < 2 ^ 64 → fresh < 2 ^ 64
    → capped (again + again_behind path edge places (drop i direction)) ≡ capped (again_behind path 0 no_marks direction)
    → capped (moved + moved_behind path edge places (drop i direction)) ≡ capped (moved_behind path 0 no_marks direction)
    → capped (fresh + fresh_behind path places (drop i direction)) ≡ capped (fresh_behind path no_marks direction)
    → shares again moved fresh ≡ shares_of path direction
shares_end path direction i past again moved fresh edge places a m f again_is moved_is fresh_is =
    let none : drop i direction ≡ [] = at_drop_all (λ cs. cs) direction i past in
    let no_again : again_behind path edge places (drop i direction) ≡ 0 = ap (again_behind path edge places) none in
    let no_moved : moved_behind path edge places (drop i direction) ≡ 0 = ap (moved_behind path edge places) none in
    let no_fresh : fresh_behind path places (drop i direction) ≡ 0 = ap (fresh_behind path places) none in
    let first : again ≡ capped (again_behind path 0 no_marks direction) = omega (arith, a, no_again, again_is) in
    let second : moved ≡ capped (moved_behind path 0 no_marks direction) = omega (arith, m, no_moved, moved_is) in
    let third : fresh ≡ capped (fresh_behind path no_marks direction) = omega (arith, f, no_fresh, fresh_is) in
    ap (λ (n : ℕ). shares n moved fresh) first ∙ ap (λ (n : ℕ). shares (capped (again_behind path 0 no_marks direction)) n fresh) second
    ∙ ap (λ (n : ℕ). shares (capped (again_behind path 0 no_marks direction)) (capped (moved_behind path 0 no_marks direction)) n) third
