-- Calls that were added, one part after the other.
--
-- A plan of calls that may be used up lets a call follow its last one: that a call didn't succeed is a word of its own
-- (`AreShortOf`).
use Rattle.std.proofs.Common.{◌≡◌, refl, sym, ◌∙◌, ap, subst, Bool, true, false, List, [], ◌∷◌, ◌++◌, map, Option, Some, None, append_assoc}
use Rattle.std.proofs.lemmas.List.{append-nil}
use Rattle.outside_kit.specs.Calls.{Call, Made}
use Rattle.run_outside.specs.declared.status.Status.{Status}
use Rattle.run_outside.specs.declared.status.Status.TheVariants.{Memory}
use Rattle.run_outside.specs.Plan.{succeeded, failed, Adds, AddsAll, Ends, IfSucceeded, AreCutAt, AddsCut, AreShortOf, AddsShort}

abbrev pub ToldCalls : Type 0
ToldCalls = Option (List Made)

pub adds_none : (a : ToldCalls) → Adds [] a a
adds_none None = tt
adds_none (Some before) = sym (append-nil before)

pub adds_then : (xs ys : List Made) (a b c : ToldCalls) → Adds xs a b → Adds ys b c → Adds (xs ++ ys) a c
adds_then xs ys a b None h k = tt
adds_then xs ys a None (Some after) h k = absurd k
adds_then xs ys None (Some middle) (Some after) h k = absurd h
adds_then xs ys (Some before) (Some middle) (Some after) h k = k ∙ ap (λ zs. zs ++ ys) h ∙ append_assoc before xs ys

succeeded-append : (xs ys : List Call) → map succeeded (xs ++ ys) ≡ map succeeded xs ++ map succeeded ys
succeeded-append [] ys = refl
succeeded-append (x ∷ xs) ys = ap (λ zs. succeeded x ∷ zs) (succeeded-append xs ys)

-- a part, and then another one
pub all_then : (xs ys : List Call) (a b c : ToldCalls) → AddsAll xs a b → AddsAll ys b c → AddsAll (xs ++ ys) a c
all_then xs ys a b c h k = subst (λ zs. Adds zs a c) (sym (succeeded-append xs ys)) (adds_then (map succeeded xs) (map succeeded ys) a b c h k)

cut_behind : (xs plan : List Call) (status : Status) (made : List Made) → AreCutAt plan status made → AreCutAt (xs ++ plan) status (map succeeded xs ++ made)
cut_behind [] plan status made h = h
cut_behind (x ∷ xs) plan status made h = (refl, cut_behind xs plan status made h)

-- a part, and then one that is cut off
pub cut_then : (xs plan : List Call) (status : Status) (a b c : ToldCalls) → AddsAll xs a b → AddsCut plan status b c → AddsCut (xs ++ plan) status a c
cut_then xs plan status a b c h k =
    (map succeeded xs ++ k.0, (cut_behind xs plan status k.0 k.1.0, adds_then (map succeeded xs) k.0 a b c h k.1.1))

longer : (plan more : List Call) (status : Status) (made : List Made) → AreCutAt plan status made → AreCutAt (plan ++ more) status made
longer plan more status [] h = h
longer [] more status (m ∷ made) h = absurd h
longer (x ∷ plan) more status (m ∷ made) h = (h.0, by m.ok (λ k. longer plan more status made k) h.1)
  where
    by : (b : Bool) → (AreCutAt plan status made → AreCutAt (plan ++ more) status made) → IfSucceeded b (AreCutAt plan status made) ((made ≡ []) × Ends x status)
        → IfSucceeded b (AreCutAt (plan ++ more) status made) ((made ≡ []) × Ends x status)
    by true f k = f k
    by false f k = k

-- what cuts off a plan, cuts off a longer one
pub cut_longer : (plan more : List Call) (status : Status) (a b : ToldCalls) → AddsCut plan status a b → AddsCut (plan ++ more) status a b
cut_longer plan more status a b h = (h.0, (longer plan more status h.0 h.1.0, h.1.1))

-- the first call failed
pub cut_first : (call : Call) (plan : List Call) (status : Status) (a b : ToldCalls) → Ends call status → Adds (failed call ∷ []) a b → AddsCut (call ∷ plan) status a b
cut_first call plan status a b ends h = (failed call ∷ [], ((refl, (refl, ends)), h))

-- no call was made, for want of memory
pub cut_none : (plan : List Call) (status : Status) (a b : ToldCalls) → status ≡ Memory → AddsAll [] a b → AddsCut plan status a b
cut_none plan status a b is h = ([], (is, h))

-- memory was wanting behind the last call
pub cut_over : (plan : List Call) (a b : ToldCalls) → AddsAll plan a b → AddsCut plan Memory a b
cut_over plan a b h = subst (λ xs. AddsCut xs Memory a b) (append-nil plan) (cut_then plan [] Memory a b b h (cut_none [] Memory b b refl (adds_none b)))

-- ---- plans that weren't made whole

short_behind : (xs plan : List Call) (status : Status) (made : List Made) → AreShortOf plan status made
    → AreShortOf (xs ++ plan) status (map succeeded xs ++ made)
short_behind [] plan status made h = h
short_behind (x ∷ xs) plan status made h = (refl, short_behind xs plan status made h)

-- a part, and then one that isn't made whole
pub short_then : (xs plan : List Call) (status : Status) (a b c : ToldCalls) → AddsAll xs a b → AddsShort plan status b c
    → AddsShort (xs ++ plan) status a c
short_then xs plan status a b c h k = (
  map succeeded xs ++ k.0,
  (short_behind xs plan status k.0 k.1.0, adds_then (map succeeded xs) k.0 a b c h k.1.1),
)

short_is_cut : (plan : List Call) (status : Status) (made : List Made) → AreShortOf plan status made → AreCutAt plan status made
short_is_cut [] status made h = absurd h
short_is_cut (x ∷ plan) status [] h = h
short_is_cut (x ∷ plan) status (m ∷ made) h = (h.0, by m.ok (λ k. short_is_cut plan status made k) h.1)
  where
    by : (b : Bool) → (AreShortOf plan status made → AreCutAt plan status made)
        → IfSucceeded b (AreShortOf plan status made) ((made ≡ []) × Ends x status)
        → IfSucceeded b (AreCutAt plan status made) ((made ≡ []) × Ends x status)
    by true f k = f k
    by false f k = k

-- such a plan was cut off
pub short_cut : (plan : List Call) (status : Status) (a b : ToldCalls) → AddsShort plan status a b → AddsCut plan status a b
short_cut plan status a b h = (h.0, (short_is_cut plan status h.0 h.1.0, h.1.1))

-- the one call failed
pub short_first : (call : Call) (status : Status) (a b : ToldCalls) → Ends call status → Adds (failed call ∷ []) a b
    → AddsShort (call ∷ []) status a b
short_first call status a b ends h = (failed call ∷ [], ((refl, (refl, ends)), h))
