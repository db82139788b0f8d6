-- The end of what was seen without a hole.
use Rattle.std.proofs.Common.{◌≡◌, ◌≢◌, refl, ap, ◌∙◌, sym, ℕ, zero, suc, ◌+◌, ◌-◌, ◌^◌, ◌<◌, ◌≤◌, Bool, true, false, ◌||◌, is_some, if◌then◌else◌, Option, Some, None, List, [], Result, Ok, Err, OnOk, OnErr, arith, true≢false, ◌⊎◌, inl, inr}
use Rattle.std.specs.Option.{option_or}
use Rattle.std.proofs.lemmas.Bool.{cases_lt}
use Rattle.first_runs.specs.declared.run.Run.{Run}
use Rattle.first_runs.specs.Runs.{Told, has, told_at, told_by, image_in, cut_to, IsGap, IsFilledBelow}
use Rattle.seen_octets.specs.Places.{is_seen, lowest_unseen, whole}

-- places that were seen are passed over
goes_on : (seen : ℕ → Bool) (from n m all next : ℕ) → all ≡ n + m → next ≡ from + n → ((p : ℕ) → from ≤ p → p < next → seen p ≡ true)
    → lowest_unseen seen from all ≡ lowest_unseen seen next m
goes_on seen from zero m all next e f h =
    let a : all ≡ m = omega (arith, e) in
    let b : from ≡ next = omega (arith, f) in
    ap (lowest_unseen seen from) a ∙ ap (λ (x : ℕ). lowest_unseen seen x m) b
goes_on seen from (suc n) m all next e f h =
    let a : all ≡ suc (n + m) = omega (arith, e) in
    ap (lowest_unseen seen from) a
    ∙ ap (λ b. if b then lowest_unseen seen (from + 1) (n + m) else from) (h from (omega arith) (omega (arith, f)))
    ∙ goes_on seen (from + 1) n m (n + m) next refl (omega (arith, f)) (λ p lo hi. h p (omega (arith, lo)) hi)

unseen_here : (seen : ℕ → Bool) (from n : ℕ) → seen from ≡ false → lowest_unseen seen from n ≡ from
unseen_here seen from zero none = refl
unseen_here seen from (suc n) none = ap (λ b. if b then lowest_unseen seen (from + 1) n else from) none

seen_below : (seen : ℕ → Bool) (from n p : ℕ) → from ≤ p → p < lowest_unseen seen from n → seen p ≡ true
seen_below seen from zero p lo hi = absurd (omega (arith, lo, hi))
seen_below seen from (suc n) p lo hi = by (seen from) refl (cases_lt from p) (λ a b. seen_below seen (from + 1) n p a b)
  where
    by : (b : Bool) → seen from ≡ b → (from < p) ⊎ (p ≤ from) → (from + 1 ≤ p → p < lowest_unseen seen (from + 1) n → seen p ≡ true) → seen p ≡ true
    by true e (inl a) later =
        let next : lowest_unseen seen from (suc n) ≡ lowest_unseen seen (from + 1) n = ap (λ b. if b then lowest_unseen seen (from + 1) n else from) e in
        later (omega (arith, a)) (omega (arith, hi, next))
    by true e (inr a) later = let same : from ≡ p = omega (arith, lo, a) in rw (sym same) e
    by false e place later =
        let here : lowest_unseen seen from (suc n) ≡ from = ap (λ b. if b then lowest_unseen seen (from + 1) n else from) e in
        absurd (omega (arith, lo, hi, here))

at_most : (seen : ℕ → Bool) (from n : ℕ) → lowest_unseen seen from n ≤ from + n
at_most seen from zero = omega arith
at_most seen from (suc n) = by (seen from) (at_most seen (from + 1) n)
  where
    by : (b : Bool) → lowest_unseen seen (from + 1) n ≤ from + 1 + n → (if b then lowest_unseen seen (from + 1) n else from) ≤ from + suc n
    by true h = omega (arith, h)
    by false h = omega arith

at_least : (seen : ℕ → Bool) (from n : ℕ) → from ≤ lowest_unseen seen from n
at_least seen from zero = omega arith
at_least seen from (suc n) = by (seen from) (at_least seen (from + 1) n)
  where
    by : (b : Bool) → from + 1 ≤ lowest_unseen seen (from + 1) n → from ≤ (if b then lowest_unseen seen (from + 1) n else from)
    by true h = omega (arith, h)
    by false h = omega arith

pub whole_few : (seen : ℕ → Bool) (from : ℕ) → from ≤ 2 ^ 62 → whole seen from ≤ 2 ^ 62
unfolding whole
whole_few seen from h = omega (arith, h, at_most seen from (2 ^ 62 - from))

-- ---- by gaps of runs
some_seen : (o : Option Told) → o ≢ None → is_some o ≡ true
some_seen None h = absurd (h refl)
some_seen (Some told) h = refl

pub whole_gap : (runs : List Run) (from begin end : ℕ) → IsGap runs from (2 ^ 62) begin end → begin ≡ whole (is_seen runs) from
unfolding whole
whole_gap runs from begin end gap = sym (
    goes_on (is_seen runs) from (begin - from) (2 ^ 62 - begin) (2 ^ 62 - from) begin (omega (arith, gap.begun, gap.some, gap.within)) (omega (arith, gap.begun))
    (λ p lo hi. some_seen (told_at runs p) (gap.before p lo hi))
    ∙ unseen_here (is_seen runs) begin (2 ^ 62 - begin) (ap is_some (gap.free begin (omega arith) gap.some)))

pub whole_all : (runs : List Run) (from : ℕ) → from ≤ 2 ^ 62 → ((p : ℕ) → from ≤ p → p < 2 ^ 62 → told_at runs p ≢ None)
    → 2 ^ 62 ≡ whole (is_seen runs) from
unfolding whole
whole_all runs from few all = sym (
    goes_on (is_seen runs) from (2 ^ 62 - from) 0 (2 ^ 62 - from) (2 ^ 62) (omega arith) (omega (arith, few))
    (λ p lo hi. some_seen (told_at runs p) (all p lo hi)))

-- ---- what was seen stays
or_seen : (o r : Option Told) → is_some o ≡ true → is_some (option_or o r) ≡ true
or_seen None r h = absurd (true≢false (sym h))
or_seen (Some told) r h = refl

-- with more places the end is found from the end before on
pub whole_on : (old new : List Run) (from : ℕ) → from ≤ 2 ^ 62 → ((p : ℕ) → is_seen old p ≡ true → is_seen new p ≡ true)
    → whole (is_seen new) (whole (is_seen old) from) ≡ whole (is_seen new) from
unfolding whole
whole_on old new from few more =
    let end = lowest_unseen (is_seen old) from (2 ^ 62 - from) in
    let most : end ≤ from + (2 ^ 62 - from) = at_most (is_seen old) from (2 ^ 62 - from) in
    let least : from ≤ end = at_least (is_seen old) from (2 ^ 62 - from) in
    sym (goes_on (is_seen new) from (end - from) (2 ^ 62 - end) (2 ^ 62 - from) end (omega (arith, most, least, few)) (omega (arith, least))
    (λ p lo hi. more p (seen_below (is_seen old) from (2 ^ 62 - from) p lo hi)))

pub still_seen : (old new : List Run) (run : Run) (p : ℕ) → told_at new p ≡ option_or (told_at old p) (told_by run p)
    → is_seen old p ≡ true → is_seen new p ≡ true
still_seen old new run p is seen = ap is_some is ∙ or_seen (told_at old p) (told_by run p) seen

is_some_or : (o r : Option Told) → is_some (option_or o r) ≡ (is_some o || is_some r)
is_some_or None r = refl
is_some_or (Some told) r = refl

some_if : (b : Bool) (told : Told) → is_some (if b then Some told else None) ≡ b
some_if true told = refl
some_if false told = refl

pub seen_with : (old new : List Run) (run : Run) (p : ℕ) → told_at new p ≡ option_or (told_at old p) (told_by run p)
    → is_seen new p ≡ (is_seen old p || has run p)
seen_with old new run p is =
    ap is_some is ∙ is_some_or (told_at old p) (told_by run p) ∙ ap (λ b. is_seen old p || b) (some_if (has run p) (image_in run p))

-- nothing was seen
pub whole_none : (runs : List Run) (from : ℕ) → runs ≡ [] → from ≡ whole (is_seen runs) from
unfolding whole
whole_none runs from none =
    sym (unseen_here (is_seen runs) from (2 ^ 62 - from) (ap (λ (rs : List Run). is_some (told_at rs from)) none))

-- what was seen stays where memory is wanting, too
pub stays_by : {X E : Type 0} (result : Result X E) (old new : List Run) (run : Run)
    → OnOk result ((p : ℕ) → told_at new p ≡ option_or (told_at old p) (told_by run p)) → OnErr result (IsFilledBelow run old new)
    → (p : ℕ) → is_seen old p ≡ true → is_seen new p ≡ true
stays_by (Ok x) old new run ok err p seen = still_seen old new run p (ok p) seen
stays_by (Err e) old new run ok err p seen = still_seen old new (cut_to run.from err.end run) p (err.told p) seen
