-- The places that a run gives, by position.
--
-- A loop that walks along a partial function: one call tells its value at a position and how far all after it is alike
-- (`IsStretch` of `dss_mapping`). The invariant 'all below is so' then closes with no answer.
--
-- A run or part that is put into an ordered list: a recursion for what it takes up, one lemma for the places and one
-- for the order, each by cases of one Bool in a `where`, with the induction hypothesis handed over as a function.
--
-- A slot beside a store that is filled while failing is allowed: the value tells what the store will be (`incoming`,
-- the places once the parts are put), so that keeping is one `rw` and the invariant says that there is room. Room of a
-- `Vec` is a number in the value (`ready`), apart from the rest, so that records above can leave it out.
use Rattle.std.proofs.Common.{◌≡◌, ℕ, ◌+◌, ◌-◌, ◌<◌, ◌≤◌, true, false, nat_le, nat_lt, ◌&&◌, cond, Option, Some, List, [], ◌∷◌, refl, sym, ap, ◌∙◌, zero, suc, ⊎_elim, arith}
use Rattle.std.specs.Ordering.{nat_cmp, eq_by_cmp}
use Rattle.std.specs.Cmp.{nat_cmp_total}
use Rattle.std.specs.FinMap.{get, get-insert, get-empty, same_map, nat_cmp-IsAntisymmetric}
use Rattle.std.proofs.lemmas.Bool.Decides.{nat_tests}
use Rattle.std.proofs.lemmas.Bool.{cases_lt}
use Rattle.dss_mapping.specs.declared.run.Run.{Run}
use Rattle.dss_mapping.specs.Runs.{covers, place_in}
use Rattle.dss_mapping.specs.Places.{Places, placed, with_run}
use Rattle.dss_mapping.specs.Kept.{places_of, place_among}

pub within : (from p to : ℕ) → from ≤ p → p < to → (nat_le from p && nat_lt p to) ≡ true
within from p to h k = grind (arith, nat_tests)

pub below : (from p to : ℕ) → p < from → (nat_le from p && nat_lt p to) ≡ false
below from p to h = grind (arith, nat_tests)

pub behind : (from p to : ℕ) → to ≤ p → (nat_le from p && nat_lt p to) ≡ false
behind from p to h = grind (arith, nat_tests)

here : (pos p : ℕ) → p ≡ pos → eq_by_cmp nat_cmp p pos ≡ true
here pos p e = grind (arith, nat_tests)

elsewhere : (pos p : ℕ) → (p ≡ pos → ⊥) → eq_by_cmp nat_cmp p pos ≡ false
elsewhere pos p e = grind (arith, nat_tests)

step-below : (pos place count p : ℕ) (rest : Option ℕ) → p < pos
    → cond (eq_by_cmp nat_cmp p pos) (Some place) (cond (nat_le (pos + 1) p && nat_lt p (pos + 1 + count)) (Some (place + 1 + (p - (pos + 1)))) rest)
    ≡ cond (nat_le pos p && nat_lt p (pos + suc count)) (Some (place + (p - pos))) rest
step-below pos place count p rest h =
    rw (elsewhere pos p (omega arith), below (pos + 1) p (pos + 1 + count) (omega arith), below pos p (pos + suc count) h) refl

step-here : (pos place count p : ℕ) (rest : Option ℕ) → p ≡ pos
    → cond (eq_by_cmp nat_cmp p pos) (Some place) (cond (nat_le (pos + 1) p && nat_lt p (pos + 1 + count)) (Some (place + 1 + (p - (pos + 1)))) rest)
    ≡ cond (nat_le pos p && nat_lt p (pos + suc count)) (Some (place + (p - pos))) rest
step-here pos place count p rest h =
    rw (here pos p h, within pos p (pos + suc count) (omega arith) (omega arith)) (ap Some (omega arith))

step-behind : (pos place count p : ℕ) (rest : Option ℕ) → pos < p
    → cond (eq_by_cmp nat_cmp p pos) (Some place) (cond (nat_le (pos + 1) p && nat_lt p (pos + 1 + count)) (Some (place + 1 + (p - (pos + 1)))) rest)
    ≡ cond (nat_le pos p && nat_lt p (pos + suc count)) (Some (place + (p - pos))) rest
step-behind pos place count p rest h = ⊎_elim
    (λ last. rw (elsewhere pos p (omega arith), within (pos + 1) p (pos + 1 + count) (omega arith) last, within pos p (pos + suc count) (omega arith) (omega arith)) (ap Some (omega arith)))
    (λ past. rw (elsewhere pos p (omega arith), behind (pos + 1) p (pos + 1 + count) past, behind pos p (pos + suc count) (omega arith)) refl)
    (cases_lt p (pos + 1 + count))

step : (pos place count p : ℕ) (rest : Option ℕ)
    → cond (eq_by_cmp nat_cmp p pos) (Some place) (cond (nat_le (pos + 1) p && nat_lt p (pos + 1 + count)) (Some (place + 1 + (p - (pos + 1)))) rest)
    ≡ cond (nat_le pos p && nat_lt p (pos + suc count)) (Some (place + (p - pos))) rest
step pos place count p rest = ⊎_elim
    (step-below pos place count p rest)
    (λ h. ⊎_elim (step-behind pos place count p rest) (λ k. step-here pos place count p rest (omega arith)) (cases_lt pos p))
    (cases_lt p pos)

get-placed : (pos place count : ℕ) (places : Places) (p : ℕ)
    → get (placed pos place count places) p ≡ cond (nat_le pos p && nat_lt p (pos + count)) (Some (place + (p - pos))) (get places p)
unfolding placed
get-placed pos place zero places p = ⊎_elim
    (λ h. rw (below pos p (pos + 0) h) refl)
    (λ h. rw (behind pos p (pos + 0) (omega arith)) refl)
    (cases_lt p pos)
get-placed pos place (suc count) places p =
    get-insert nat_cmp_total (placed (pos + 1) (place + 1) count places) pos place p
    ∙ ap (cond (eq_by_cmp nat_cmp p pos) (Some place)) (get-placed (pos + 1) (place + 1) count places p)
    ∙ step pos place count p (get places p)

same_end : (run : Run) (p : ℕ) → (nat_le run.pos p && nat_lt p (run.pos + (run.to - run.pos))) ≡ covers p run
same_end run p = grind (arith, nat_tests)

pub get-with_run : (run : Run) (places : Places) (p : ℕ)
    → get (with_run run places) p ≡ cond (covers p run) (Some (place_in p run)) (get places p)
unfolding with_run
get-with_run run places p =
    get-placed run.pos run.place (run.to - run.pos) places p
    ∙ ap (λ b. cond b (Some (place_in p run)) (get places p)) (same_end run p)

pub get-places_of : (runs : List Run) (p : ℕ) → get (places_of runs) p ≡ place_among p runs
get-places_of [] p = get-empty nat_cmp p
get-places_of (run ∷ runs) p =
    get-with_run run (places_of runs) p ∙ ap (cond (covers p run) (Some (place_in p run))) (get-places_of runs p)

-- places are what they are by position
pub same_places : (runs others : List Run) (told : Run)
    → ((p : ℕ) → place_among p runs ≡ cond (covers p told) (Some (place_in p told)) (place_among p others))
    → places_of runs ≡ with_run told (places_of others)
same_places runs others told each = same_map nat_cmp_total nat_cmp-IsAntisymmetric (places_of runs) (with_run told (places_of others)) (λ p.
    get-places_of runs p ∙ each p
    ∙ sym (get-with_run told (places_of others) p ∙ ap (cond (covers p told) (Some (place_in p told))) (get-places_of others p)))
