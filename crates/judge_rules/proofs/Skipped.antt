-- The lowest position with another place, run by run.
use Rattle.std.proofs.Common.{◌≡◌, ◌⊎◌, inl, inr, refl, sym, ◌∙◌, ap, ℕ, zero, suc, ◌+◌, ◌-◌, ◌<◌, ◌≤◌, max, Bool, true, false, ◌&&◌, ◌==◌, nat_le, nat_lt, Option, Some, None, List, arith}
use Rattle.std.specs.Prelude.{if◌then◌else◌}
use Rattle.std.specs.Option.{option_or}
use Rattle.std.proofs.lemmas.Bool.{cases_lt, eqb-true, eq-eqb}
use Rattle.first_runs.specs.declared.run.Run.{Run}
use Rattle.first_runs.specs.Runs.{Told, image_in, told_at, told_by, IsFirstBehind}
use Rattle.judge_rules.specs.declared.finding.Finding.{Finding}
use Rattle.judge_rules.specs.declared.finding.Finding.TheVariants.{OtherPlace}
use Rattle.judge_rules.specs.Clashes.{clash_by, first_clash}

-- the first clash is that behind a count of positions, none of which has another place
pub skip : (told : ℕ → Option Told) (p place n m all next after : ℕ)
    → ((q : ℕ) → p ≤ q → q < p + n → clash_by (told q) q (place + (q - p)) ≡ None)
    → all ≡ n + m → next ≡ p + n → after ≡ place + n → first_clash told p place all ≡ first_clash told next after m
skip told p place zero m all next after free e f g =
    let a : all ≡ m = omega (arith, e) in
    let b : p ≡ next = omega (arith, f) in
    let c : place ≡ after = omega (arith, g) in
    ap (first_clash told p place) a ∙ ap (λ (x : ℕ). first_clash told x place m) b ∙ ap (λ (x : ℕ). first_clash told next x m) c
skip told p place (suc n) m all next after free e f g =
    let a : all ≡ suc (n + m) = omega (arith, e) in
    let here : place ≡ place + (p - p) = omega arith in
    let head : clash_by (told p) p place ≡ None = ap (clash_by (told p) p) here ∙ free p (omega arith) (omega arith) in
    let later : (q : ℕ) → p + 1 ≤ q → q < p + 1 + n → clash_by (told q) q (place + 1 + (q - (p + 1))) ≡ None =
    λ q lo hi. (let same : place + 1 + (q - (p + 1)) ≡ place + (q - p) = omega (arith, lo) in
    ap (clash_by (told q) q) same ∙ free q (omega (arith, lo)) (omega (arith, hi))) in
    ap (first_clash told p place) a
    ∙ ap (λ (o : Option Finding). option_or o (first_clash told (p + 1) (place + 1) (n + m))) head
    ∙ skip told (p + 1) (place + 1) n m (n + m) next after later refl (omega (arith, f)) (omega (arith, g))

-- no position of these has a place
pub none_told : (told : ℕ → Option Told) (p place n : ℕ) → ((q : ℕ) → p ≤ q → q < p + n → told q ≡ None) → first_clash told p place n ≡ None
none_told told p place n free =
    skip told p place n 0 n (p + n) (place + n) (λ q lo hi. ap (λ (o : Option Told). clash_by o q (place + (q - p))) (free q lo hi)) (omega arith) refl refl

-- ---- what a run tells

not_begun : (run : Run) (q : ℕ) → q < run.from → told_by run q ≡ None
not_begun run q h = by (nat_le run.from q) refl
  where
    by : (b : Bool) → nat_le run.from q ≡ b → (if b && nat_lt q run.to then Some (image_in run q) else None) ≡ None
    by false e = refl
    by true e = absurd (let le : run.from ≤ q = grind (arith, e) in omega arith)

is_told : (run : Run) (q : ℕ) → run.from ≤ q → q < run.to → told_by run q ≡ Some (image_in run q)
is_told run q lo hi = grind arith

-- a position that a run maps to the told place has no clash
no_clash : (run : Run) (q place : ℕ) → run.from ≤ q → q < run.to → run.image + (q - run.from) ≡ place → clash_by (told_by run q) q place ≡ None
no_clash run q place lo hi same =
    ap (λ (o : Option Told). clash_by o q place) (is_told run q lo hi)
    ∙ ap (λ b. if b then None else Some (OtherPlace q (run.image + (q - run.from)) run.teller place)) (eq-eqb (run.image + (q - run.from)) place same)

-- a clash by a run is of another place
same_place : (run : Run) (q place : ℕ) → run.from ≤ q → q < run.to → clash_by (told_by run q) q place ≡ None → run.image + (q - run.from) ≡ place
same_place run q place lo hi none =
    by ((run.image + (q - run.from)) == place) refl (sym (ap (λ (o : Option Told). clash_by o q place) (is_told run q lo hi)) ∙ none)
  where
    by : (b : Bool) → ((run.image + (q - run.from)) == place) ≡ b
        → (if b then None else Some (OtherPlace q (run.image + (q - run.from)) run.teller place)) ≡ None → run.image + (q - run.from) ≡ place
    by true e is = eqb-true (run.image + (q - run.from)) place e
    by false e is = cc

module _ (runs : List Run) (run : Run) (position place to begin : ℕ) (behind : IsFirstBehind runs position run) (begins : begin ≡ max run.from position) where
  -- positions before a run have no place
  before_run : (q : ℕ) → position ≤ q → q < begin → told_at runs q ≡ None
  before_run q lo hi =
      behind.alone q lo (omega (arith, begins, behind.some, behind.behind)) ∙ not_begun run q (omega (arith, begins))

  -- the range ends before the run
  pub ends_before : to ≤ begin → first_clash (told_at runs) position place (to - position) ≡ None
  ends_before h = none_told (told_at runs) position place (to - position) (λ q lo hi. before_run q lo (omega (arith, h)))

  -- from the run's first position on
  from_begin : begin < to → first_clash (told_at runs) position place (to - position) ≡ first_clash (told_at runs) begin (place + (begin - position)) (to - begin)
  from_begin h =
      skip (told_at runs) position place (begin - position) (to - begin) (to - position) begin (place + (begin - position))
      (λ q lo hi. ap (λ (o : Option Told). clash_by o q (place + (q - position))) (before_run q lo (omega (arith, begins))))
      (omega (arith, begins)) (omega (arith, begins)) refl

  told_there : told_at runs begin ≡ told_by run begin
  told_there = behind.alone begin (omega (arith, begins)) (omega (arith, begins, behind.behind, behind.some))

  -- its first position has another place
  pub clashes : (finding : Finding) → begin < to → clash_by (told_by run begin) begin (place + (begin - position)) ≡ Some finding
      → first_clash (told_at runs) position place (to - position) ≡ Some finding
  clashes finding h is =
      let count : to - begin ≡ suc (to - begin - 1) = omega (arith, h) in
      from_begin h ∙ ap (first_clash (told_at runs) begin (place + (begin - position))) count
      ∙ ap (λ (o : Option Told). option_or (clash_by o begin (place + (begin - position)))
      (first_clash (told_at runs) (begin + 1) (place + (begin - position) + 1) (to - begin - 1))) told_there
      ∙ ap (λ (o : Option Finding). option_or o (first_clash (told_at runs) (begin + 1) (place + (begin - position) + 1) (to - begin - 1))) is

  -- where the first position of a run has no clash, none of its positions has one
  alike : clash_by (told_by run begin) begin (place + (begin - position)) ≡ None → (q : ℕ) → position ≤ q → q < run.to
      → clash_by (told_at runs q) q (place + (q - position)) ≡ None
  alike none q lo hi =
      let same : run.image + (begin - run.from) ≡ place + (begin - position) =
      same_place run begin (place + (begin - position)) (omega (arith, begins)) (omega (arith, begins, behind.behind, behind.some)) none in
      ap (λ (o : Option Told). clash_by o q (place + (q - position))) (behind.alone q lo hi)
      ∙ by (cases_lt q run.from) same
    where
      by : (q < run.from) ⊎ (run.from ≤ q) → run.image + (begin - run.from) ≡ place + (begin - position)
          → clash_by (told_by run q) q (place + (q - position)) ≡ None
      by (inl early) same = ap (λ (o : Option Told). clash_by o q (place + (q - position))) (not_begun run q early)
      by (inr late) same = no_clash run q (place + (q - position)) late hi (omega (arith, begins, same))

  pub goes_on : clash_by (told_by run begin) begin (place + (begin - position)) ≡ None → position < to
      → first_clash (told_at runs) position place (to - position) ≡ first_clash (told_at runs) run.to (place + (run.to - position)) (to - run.to)
  goes_on none h = by (cases_lt run.to to)
    where
      by : (run.to < to) ⊎ (to ≤ run.to)
          → first_clash (told_at runs) position place (to - position) ≡ first_clash (told_at runs) run.to (place + (run.to - position)) (to - run.to)
      by (inl early) =
          skip (told_at runs) position place (run.to - position) (to - run.to) (to - position) run.to (place + (run.to - position))
          (λ q lo hi. alike none q lo (omega (arith, behind.behind))) (omega (arith, behind.behind)) (omega (arith, behind.behind)) refl
      by (inr late) =
          let left : to - run.to ≡ 0 = omega (arith, late) in
          skip (told_at runs) position place (to - position) 0 (to - position) to (place + (to - position))
          (λ q lo hi. alike none q lo (omega (arith, late))) (omega arith) (omega arith) refl
          ∙ sym (ap (first_clash (told_at runs) run.to (place + (run.to - position))) left)
