-- How many places have nothing told of them: of a range in parts.
use Rattle.std.proofs.Common.{◌≡◌, ◌≢◌, ℕ, zero, suc, ◌+◌, ◌-◌, ◌<◌, ◌≤◌, Option, Some, None, List, refl, ap, ◌∙◌, arith}
use Rattle.first_runs.specs.declared.run.Run.{Run}
use Rattle.first_runs.specs.Runs.{Told, told_at, missing_at, missing, IsGap}

parts : (runs : List Run) (from m n all next : ℕ) → all ≡ m + n → next ≡ from + m → missing runs from all ≡ missing runs from m + missing runs next n
parts runs from zero n all next e f =
    let a : all ≡ n = omega (arith, e) in
    let b : from ≡ next = omega (arith, f) in
    let none : missing runs from 0 ≡ 0 = refl in
    let same : missing runs from all ≡ missing runs next n = ap (missing runs from) a ∙ ap (λ (p : ℕ). missing runs p n) b in
    omega (arith, same, none)
parts runs from (suc m) n all next e f =
    let a : all ≡ suc (m + n) = omega (arith, e) in
    let whole : missing runs from all ≡ missing_at (told_at runs from) + missing runs (from + 1) (m + n) = ap (missing runs from) a in
    let front : missing runs from (suc m) ≡ missing_at (told_at runs from) + missing runs (from + 1) m = refl in
    let rest = parts runs (from + 1) m n (m + n) next refl (omega (arith, f)) in
    omega (arith, whole, front, rest)

told_not_missing : (o : Option Told) → o ≢ None → missing_at o ≡ 0
told_not_missing None some = absurd (some refl)
told_not_missing (Some t) some = refl

none_missing : (runs : List Run) (from n : ℕ) → ((p : ℕ) → from ≤ p → p < from + n → told_at runs p ≢ None) → missing runs from n ≡ 0
none_missing runs from zero all = refl
none_missing runs from (suc n) all =
    omega (
      arith,
      told_not_missing (told_at runs from) (all from (omega arith) (omega arith)),
      none_missing runs (from + 1) n (λ p h k. all p (omega (arith, h)) (omega (arith, k))),
    )

all_missing : (runs : List Run) (from n : ℕ) → ((p : ℕ) → from ≤ p → p < from + n → told_at runs p ≡ None) → missing runs from n ≡ n
all_missing runs from zero all = refl
all_missing runs from (suc n) all =
    omega (
      arith,
      ap missing_at (all from (omega arith) (omega arith)),
      all_missing runs (from + 1) n (λ p h k. all p (omega (arith, h)) (omega (arith, k))),
    )

-- behind a gap is as much less missing as the gap is long
pub gap_counted : (runs : List Run) (place to begin end : ℕ) → IsGap runs place to begin end
    → missing runs place (to - place) ≡ (end - begin) + missing runs end (to - end)
gap_counted runs place to begin end gap =
    let first = parts runs place (begin - place) (to - begin) (to - place) begin (omega (arith, gap.begun, gap.some, gap.within)) (omega (arith, gap.begun)) in
    let second = parts runs begin (end - begin) (to - end) (to - begin) end (omega (arith, gap.some, gap.within)) (omega (arith, gap.some)) in
    let told = none_missing runs place (begin - place) (λ p h k. gap.before p h (omega (arith, k, gap.begun))) in
    let free = all_missing runs begin (end - begin) (λ p h k. gap.free p h (omega (arith, k, gap.some))) in
    omega (arith, first, second, told, free)

pub no_gap_counted : (runs : List Run) (place to : ℕ) → ((p : ℕ) → place ≤ p → p < to → told_at runs p ≢ None) → missing runs place (to - place) ≡ 0
no_gap_counted runs place to all = none_missing runs place (to - place) (λ p h k. all p h (omega (arith, k)))

pub nothing_left : (runs : List Run) (place to : ℕ) → to ≤ place → missing runs place (to - place) ≡ 0
nothing_left runs place to h = let none : to - place ≡ 0 = omega (arith, h) in ap (missing runs place) none
