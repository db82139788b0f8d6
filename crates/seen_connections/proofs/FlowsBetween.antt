-- Which of the flows in a list is the last between two ends, and what stays of this as flows begin and change.
use Rattle.std.proofs.Common.{◌≡◌, refl, sym, ◌∙◌, ap, ℕ, zero, suc, ◌+◌, ◌≤◌, Bool, true, false, cond, ◌||◌, Option, Some, None, List, [], ◌∷◌, ◌++◌, length, arith}
use Rattle.std.specs.Prelude.{if◌then◌else◌}
use Rattle.std.proofs.Math.ListN.{set}
use Rattle.std.specs.List.{slice_get}
use Rattle.std.specs.Option.{option_or}
use Rattle.std.proofs.lemmas.Option.{same_Some}
use Rattle.seen_connections.specs.declared.ends.Ends.{Ends}
use Rattle.seen_connections.specs.declared.flow.Flow.{Flow}
use Rattle.seen_connections.specs.SameEnds.{same_ends, turned}
use Rattle.seen_connections.specs.Flows.{ends_of, goes, is_between, last_that, later}

-- what the first of two gives stands at or behind the number of the first flow
last_that-le : (test : Flow → Bool) (n : ℕ) (flows : List Flow) (i : ℕ) → last_that test n flows ≡ Some i → n ≤ i
last_that-le test n [] i e = cc
last_that-le test n (flow ∷ flows) i e = by (last_that test (n + 1) flows) (test flow) (λ is. last_that-le test (n + 1) flows i is) e
  where
    by : (o : Option ℕ) (b : Bool) → (o ≡ Some i → n + 1 ≤ i) → option_or o (if b then Some n else None) ≡ Some i → n ≤ i
    by (Some j) b rest is = let below : n + 1 ≤ i = rest is in omega arith
    by None true rest is = let same : n ≡ i = cc in omega arith
    by None false rest is = cc

-- one flow more
pub last_that-push : (test : Flow → Bool) (n : ℕ) (flows : List Flow) (flow : Flow)
    → last_that test n (flows ++ flow ∷ []) ≡ (if test flow then Some (n + length flows) else last_that test n flows)
last_that-push test n [] flow = by (test flow)
  where
    by : (b : Bool) → option_or None (if b then Some n else None) ≡ (if b then Some (n + 0) else None)
    by true = ap Some (omega arith)
    by false = refl
last_that-push test n (first ∷ flows) flow =
    ap (λ o. option_or o (if test first then Some n else None)) (last_that-push test (n + 1) flows flow)
    ∙ by (test flow) (if test first then Some n else None)
  where
    by : (b : Bool) (rest : Option ℕ)
        → option_or (if b then Some (n + 1 + length flows) else last_that test (n + 1) flows) rest
        ≡ (if b then Some (n + suc (length flows)) else option_or (last_that test (n + 1) flows) rest)
    by true rest = ap Some (omega arith)
    by false rest = refl

-- a flow in the place of another one of which the test says the same
pub last_that-set : (test : Flow → Bool) (n : ℕ) (flows : List Flow) (i : ℕ) (was flow : Flow) → slice_get flows i ≡ Some was
    → test flow ≡ test was → last_that test n (set flows i flow) ≡ last_that test n flows
last_that-set test n [] i was flow at same = refl
last_that-set test n (first ∷ flows) zero was flow at same =
    let there : first ≡ was = same_Some first was at in
    ap (λ b. option_or (last_that test (n + 1) flows) (if b then Some n else None)) (same ∙ sym (ap test there))
last_that-set test n (first ∷ flows) (suc i) was flow at same =
    ap (λ o. option_or o (if test first then Some n else None)) (last_that-set test (n + 1) flows i was flow at same)

-- the last that passes one of two tests is the later one of the last that passes each
pub last_that-later : (p q : Flow → Bool) (n : ℕ) (flows : List Flow)
    → later (last_that p n flows) (last_that q n flows) ≡ last_that (λ flow. p flow || q flow) n flows
last_that-later p q n [] = refl
last_that-later p q n (flow ∷ flows) =
    by (last_that p (n + 1) flows) refl (last_that q (n + 1) flows) refl (p flow) (q flow)
    ∙ ap (λ o. option_or o (if p flow || q flow then Some n else None)) (last_that-later p q (n + 1) flows)
  where
    by : (o : Option ℕ) → last_that p (n + 1) flows ≡ o → (r : Option ℕ) → last_that q (n + 1) flows ≡ r → (a b : Bool)
        → later (option_or o (if a then Some n else None)) (option_or r (if b then Some n else None))
        ≡ option_or (later o r) (if a || b then Some n else None)
    by None e None f true true = ap Some (omega arith)
    by None e None f true false = refl
    by None e None f false true = refl
    by None e None f false false = refl
    by None e (Some j) f true b = let below : n + 1 ≤ j = last_that-le q (n + 1) flows j f in ap Some (omega arith)
    by None e (Some j) f false b = refl
    by (Some i) e None f a true = let below : n + 1 ≤ i = last_that-le p (n + 1) flows i e in ap Some (omega arith)
    by (Some i) e None f a false = refl
    by (Some i) e (Some j) f a b = refl

-- ---- the flows from one end to another

-- the last between two ends, by the last in each direction
pub between-is : (ends : Ends) (flows : List Flow) (one other : Option ℕ) → one ≡ last_that (goes ends) 0 flows
    → other ≡ last_that (goes (turned ends)) 0 flows → later one other ≡ last_that (is_between ends) 0 flows
between-is ends flows one other e f =
    ap (λ o. later o other) e ∙ ap (λ o. later (last_that (goes ends) 0 flows) o) f ∙ last_that-later (goes ends) (goes (turned ends)) 0 flows

-- a new flow is the last from its end to the other one
pub goes-push : (ends : Ends) (flows : List Flow) (flow : Flow)
    → last_that (goes ends) 0 (flows ++ flow ∷ []) ≡ (if same_ends (ends_of flow) ends then Some (length flows) else last_that (goes ends) 0 flows)
goes-push ends flows flow =
    last_that-push (goes ends) 0 flows flow
    ∙ ap (λ k. if same_ends (ends_of flow) ends then Some k else last_that (goes ends) 0 flows) (omega arith)

-- what a table gives that was told of the new flow
pub begun-told : (ends : Ends) (flows after : List Flow) (flow : Flow) (n : ℕ) (was now : Option ℕ) → now ≡ cond (same_ends (ends_of flow) ends) (Some n) was
    → was ≡ last_that (goes ends) 0 flows → n ≡ length flows → after ≡ flows ++ flow ∷ [] → now ≡ last_that (goes ends) 0 after
begun-told ends flows after flow n was now is told number more =
    is ∙ ap (λ k. cond (same_ends (ends_of flow) ends) (Some k) was) number ∙ ap (cond (same_ends (ends_of flow) ends) (Some (length flows))) told
    ∙ sym (goes-push ends flows flow) ∙ ap (last_that (goes ends) 0) (sym more)

-- a flow with the same ends in the place of one
pub goes-set : (ends : Ends) (flows : List Flow) (i : ℕ) (was flow : Flow) → slice_get flows i ≡ Some was → ends_of flow ≡ ends_of was
    → last_that (goes ends) 0 (set flows i flow) ≡ last_that (goes ends) 0 flows
goes-set ends flows i was flow at same =
    last_that-set (goes ends) 0 flows i was flow at (ap (λ (x : Ends). same_ends x ends) same)
