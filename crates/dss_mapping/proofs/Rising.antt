-- Mappings of which none ends before one that stands before it.
use Rattle.std.proofs.Common.{◌≡◌, ℕ, zero, suc, ◌<◌, true, false, nat_lt, List, [], ◌∷◌, length, drop, get_or, refl, sym, ap, arith, ◌∙◌}
use Rattle.std.specs.List.{filter}
use Rattle.std.specs.List.Sorted.{IsNonDecreasingBy}
use Rattle.std.proofs.lemmas.Bool.Decides.{nat_tests}
use Rattle.dss_mapping.specs.declared.kept.KeptMapping.{KeptMapping}
use Rattle.dss_mapping.specs.Live.{end_of, ends_after}

lt_true : (a b : ℕ) → a < b → nat_lt a b ≡ true
lt_true a b h = grind (arith, nat_tests)

is_past : (a b : ℕ) → nat_lt a b ≡ true → a < b
is_past a b h = grind (arith, nat_tests)

all_left : (pos : ℕ) (live : List KeptMapping) → ((i : ℕ) (d : KeptMapping) → i < length live → pos < end_of (get_or live i d)) → filter (ends_after pos) live ≡ live
all_left pos [] h = refl
all_left pos (kept ∷ live) h =
    rw (lt_true pos (end_of kept) (h 0 kept (omega arith))) (ap (λ (live : List KeptMapping). kept ∷ live) (all_left pos live (λ i d lt. h (suc i) d (omega arith))))

-- where the first one is left, all are
pub left_from : (pos : ℕ) (live : List KeptMapping) (first : KeptMapping) → IsNonDecreasingBy end_of live → first ≡ get_or live 0 first → ends_after pos first ≡ true → filter (ends_after pos) live ≡ live
left_from pos [] first rises is past = refl
left_from pos (kept ∷ live) first rises is past =
    let lt = is_past pos (end_of first) past in
    let same : end_of first ≡ end_of kept = ap end_of is in
    all_left pos (kept ∷ live) (λ i d within. let le = rises 0 i d (omega arith) within in omega (arith, le, lt, same))

-- the first one is let go
pub first_gone : (pos : ℕ) (live : List KeptMapping) (first : KeptMapping) → first ≡ get_or live 0 first → ends_after pos first ≡ false → filter (ends_after pos) (drop 1 live) ≡ filter (ends_after pos) live
first_gone pos [] first is below = refl
first_gone pos (kept ∷ live) first is below =
    let here : ends_after pos kept ≡ false = ap (ends_after pos) (sym is) ∙ below in
    rw here refl
