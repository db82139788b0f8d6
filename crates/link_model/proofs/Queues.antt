-- Two queues stand for the copies of both in the order of their arrival.
use Rattle.std.proofs.Common.{◌≡◌, ◌∙◌, refl, sym, ap, ℕ, suc, ◌+◌, Bool, true, false, not, cond, ltb, List, [], ◌∷◌, ◌++◌, length, remove, Some, None, subst, ◌<◌, ◌≤◌, ◌⊎◌, inl, inr, arith, Result, Ok, Err}
use Rattle.std.specs.Prelude.{OnOk, OnErr, find, position, ◌==◌, ◌&&◌}
use Rattle.std.specs.List.{AllByRecursion, position_or_len}
use Rattle.std.proofs.lemmas.Bool.{and_parts, false≢true, cases_lt, lt-ltb, le-ltb}
use Rattle.std.proofs.lemmas.List.{append-nil, append_assoc}
use Rattle.sides.specs.declared.side.Side.{Side}
use Rattle.sides.specs.declared.side.Side.TheVariants.{A, B}
use Rattle.sides.specs.Side.{peer}
use Rattle.link_script.specs.Places.{same_side}
use Rattle.link_model.specs.declared.flight.Flight.{Flight}
use Rattle.link_model.specs.declared.flight.Due.{Due}
use Rattle.link_model.specs.Laws.{going_to}
use Rattle.link_model.specs.Order.{AreInOrder}
use Rattle.link_model.specs.Queues.{IsQueue, merged, first_due}
use Rattle.link_model.specs.Steps.{comes_before, with_flight, with_flights, is_due, due_of, next_due, without}
use Rattle.link_model.proofs.Later.{all_with}
use Rattle.link_model.proofs.Order.{in_order_with, in_order_removed, one_is_first}
use Rattle.link_model.proofs.Plain.{side_is, same_as_itself, IsBefore, before_all}

-- ---- what goes to a side

-- a copy that goes there among copies that come after it
alone_before : {C : Type 0} (f : Flight C) (flights : List (Flight C)) → IsBefore f flights → with_flight f flights ≡ f ∷ flights
alone_before f [] before = refl
alone_before f (g ∷ flights) before = ap (λ (b : Bool). cond b (f ∷ g ∷ flights) (g ∷ with_flight f flights)) before.0

before_going : {C : Type 0} (f : Flight C) (s : Side) (flights : List (Flight C)) → IsBefore f flights → IsBefore f (going_to s flights)
before_going f s [] before = tt
before_going f s (g ∷ flights) before = (elim (same_side g.to s) as (λ b. IsBefore f (going_to s flights) → IsBefore f (cond b (g ∷ going_to s flights) (going_to s flights)))
    [ true ↦ λ rest. (before.0, rest) | false ↦ λ rest. rest ]) (before_going f s flights before.1)

-- a copy that goes elsewhere
goes_elsewhere : {C : Type 0} (s : Side) (f : Flight C) (flights : List (Flight C)) → same_side f.to s ≡ false → going_to s (with_flight f flights) ≡ going_to s flights
goes_elsewhere s f [] e = ap (λ (b : Bool). cond b (f ∷ []) []) e
goes_elsewhere {C = C} s f (g ∷ flights) e = by (comes_before f g) (same_side g.to s) (goes_elsewhere s f flights e)
  where
    by : (b t : Bool) → going_to s (with_flight f flights) ≡ going_to s flights
        → going_to s (cond b (f ∷ g ∷ flights) (g ∷ with_flight f flights)) ≡ going_to s (g ∷ flights)
    by true t rest = ap (λ (b : Bool). cond b (f ∷ going_to s (g ∷ flights)) (going_to s (g ∷ flights))) e
    by false t rest = ap (λ (gs : List (Flight C)). cond (same_side g.to s) (g ∷ gs) gs) rest

-- a copy that goes there is put among those that do
goes_there : {C : Type 0} (s : Side) (f : Flight C) (flights : List (Flight C)) → AreInOrder flights → same_side f.to s ≡ true → going_to s (with_flight f flights) ≡ with_flight f (going_to s flights)
goes_there s f [] order e = ap (λ (b : Bool). cond b (f ∷ []) []) e
goes_there {C = C} s f (g ∷ flights) order e = by (comes_before f g) refl (same_side g.to s) refl (goes_there s f flights order.1 e)
  where
    first : (gs : List (Flight C)) → IsBefore f gs → going_to s (f ∷ gs) ≡ with_flight f (going_to s gs)
    first gs before = ap (λ (b : Bool). cond b (f ∷ going_to s gs) (going_to s gs)) e ∙ sym (alone_before f (going_to s gs) (before_going f s gs before))

    later : (b : Bool) → comes_before f g ≡ false → going_to s (with_flight f flights) ≡ with_flight f (going_to s flights)
        → cond b (g ∷ going_to s (with_flight f flights)) (going_to s (with_flight f flights)) ≡ with_flight f (cond b (g ∷ going_to s flights) (going_to s flights))
    later true not rest = ap (λ (gs : List (Flight C)). g ∷ gs) rest ∙ sym (ap (λ (b : Bool). cond b (f ∷ g ∷ going_to s flights) (g ∷ with_flight f (going_to s flights))) not)
    later false not rest = rest

    by : (b : Bool) → comes_before f g ≡ b → (t : Bool) → same_side g.to s ≡ t → going_to s (with_flight f flights) ≡ with_flight f (going_to s flights)
        → going_to s (cond b (f ∷ g ∷ flights) (g ∷ with_flight f flights)) ≡ with_flight f (going_to s (g ∷ flights))
    by true low t at rest = first (g ∷ flights) (low, before_all f g flights low order.0)
    by false not t at rest = later (same_side g.to s) not rest

all_go : {C : Type 0} (s : Side) (flights : List (Flight C)) → AllByRecursion (λ f. f.to ≡ s) flights → going_to s flights ≡ flights
all_go s [] all = refl
all_go {C = C} s (f ∷ flights) all =
    ap (λ (b : Bool). cond b (f ∷ going_to s flights) (going_to s flights)) (ap (λ (t : Side). same_side t s) all.0 ∙ same_as_itself s)
    ∙ ap (λ (gs : List (Flight C)). f ∷ gs) (all_go s flights all.1)

apart : (s : Side) → same_side s (peer s) ≡ false
apart = elim [ A ↦ refl | B ↦ refl ]

none_go : {C : Type 0} (s : Side) (flights : List (Flight C)) → AllByRecursion (λ f. f.to ≡ s) flights → going_to (peer s) flights ≡ []
none_go s [] all = refl
none_go s (f ∷ flights) all =
    ap (λ (b : Bool). cond b (f ∷ going_to (peer s) flights) (going_to (peer s) flights)) (ap (λ (t : Side). same_side t (peer s)) all.0 ∙ apart s) ∙ none_go s flights all.1

-- the copies that go to a side, the first of all first
goes_first : {C : Type 0} (s : Side) (f : Flight C) (flights : List (Flight C)) → f.to ≡ s → going_to s (f ∷ flights) ≡ f ∷ going_to s flights
goes_first s f flights e = ap (λ (b : Bool). cond b (f ∷ going_to s flights) (going_to s flights)) (ap (λ (t : Side). same_side t s) e ∙ same_as_itself s)

passes_by : {C : Type 0} (s : Side) (f : Flight C) (flights : List (Flight C)) → f.to ≡ s → going_to (peer s) (f ∷ flights) ≡ going_to (peer s) flights
passes_by s f flights e = ap (λ (b : Bool). cond b (f ∷ going_to (peer s) flights) (going_to (peer s) flights)) (ap (λ (t : Side). same_side t (peer s)) e ∙ apart s)

-- what is true of all copies is true of the first that goes to a side
first_is : {C : Type 0} (P : Flight C → Type 0) (s : Side) (flights : List (Flight C)) (f : Flight C) (more : List (Flight C)) → AllByRecursion P flights → going_to s flights ≡ f ∷ more → P f
first_is P s [] f more all is = absurd cc
first_is {C = C} P s (g ∷ flights) f more all is = (elim (same_side g.to s) as (λ b. (going_to s flights ≡ f ∷ more → P f) → cond b (g ∷ going_to s flights) (going_to s flights) ≡ f ∷ more → P f)
    [ true ↦ λ rest e. let same : g ≡ f = cc in subst P same all.0 | false ↦ λ rest e. rest e ]) (λ e. first_is P s flights f more all.1 e) is

-- ---- two queues in one order

-- copies in the order of their arrival, of which these go to A and those to B
pub record Merges {C : Type 0} (flights to_a to_b : List (Flight C)) : Type 0 where
  pub order : AreInOrder flights
  pub a : going_to A flights ≡ to_a
  pub b : going_to B flights ≡ to_b

-- there is one such list
same_flights : {C : Type 0} (l m : List (Flight C)) → AreInOrder l → AreInOrder m → going_to A l ≡ going_to A m → going_to B l ≡ going_to B m → l ≡ m
same_flights [] [] low high a b = refl
same_flights [] (g ∷ gs) low high a b = (elim g.to as (λ s. g.to ≡ s → [] ≡ g ∷ gs)
    [ A ↦ λ e. let no : [] ≡ g ∷ going_to A gs = a ∙ goes_first A g gs e in absurd cc | B ↦ λ e. let no : [] ≡ g ∷ going_to B gs = b ∙ goes_first B g gs e in absurd cc ]) refl
same_flights (f ∷ fs) [] low high a b = (elim f.to as (λ s. f.to ≡ s → f ∷ fs ≡ [])
    [ A ↦ λ e. let no : [] ≡ f ∷ going_to A fs = sym a ∙ goes_first A f fs e in absurd cc | B ↦ λ e. let no : [] ≡ f ∷ going_to B fs = sym b ∙ goes_first B f fs e in absurd cc ]) refl
same_flights {C = C} (f ∷ fs) (g ∷ gs) low high a b = by f.to g.to (λ x y. same_flights fs gs low.1 high.1 x y) refl refl
  where
    both : f ≡ g → fs ≡ gs → f ∷ fs ≡ g ∷ gs
    both first rest = ap (λ (x : Flight C). x ∷ fs) first ∙ ap (λ (xs : List (Flight C)). g ∷ xs) rest

    by : (s t : Side) → (going_to A fs ≡ going_to A gs → going_to B fs ≡ going_to B gs → fs ≡ gs) → f.to ≡ s → g.to ≡ t → f ∷ fs ≡ g ∷ gs
    by A A rest e d =
        let here : f ∷ going_to A fs ≡ g ∷ going_to A gs = sym (goes_first A f fs e) ∙ a ∙ goes_first A g gs d in
        let first : f ≡ g = cc in
        let more : going_to A fs ≡ going_to A gs = cc in
        both first (rest more (sym (passes_by A f fs e) ∙ b ∙ passes_by A g gs d))
    by B B rest e d =
        let here : f ∷ going_to B fs ≡ g ∷ going_to B gs = sym (goes_first B f fs e) ∙ b ∙ goes_first B g gs d in
        let first : f ≡ g = cc in
        let more : going_to B fs ≡ going_to B gs = cc in
        both first (rest (sym (passes_by B f fs e) ∙ a ∙ passes_by B g gs d) more)
    by A B rest e d =
        let later = first_is (λ h. comes_before h g ≡ false) A gs f (going_to A fs) high.0 (sym (passes_by B g gs d) ∙ sym a ∙ goes_first A f fs e) in
        let other = first_is (λ h. comes_before h f ≡ false) B fs g (going_to B gs) low.0 (sym (passes_by A f fs e) ∙ b ∙ goes_first B g gs d) in
        absurd (one_is_first f g e d later other)
    by B A rest e d =
        let later = first_is (λ h. comes_before h g ≡ false) B gs f (going_to B fs) high.0 (sym (passes_by A g gs d) ∙ sym b ∙ goes_first B f fs e) in
        let other = first_is (λ h. comes_before h f ≡ false) A fs g (going_to A gs) low.0 (sym (passes_by B f fs e) ∙ a ∙ goes_first A g gs d) in
        absurd (one_is_first g f d e other later)

merges_once : {C : Type 0} {l m xs ys : List (Flight C)} → Merges l xs ys → Merges m xs ys → l ≡ m
merges_once h k = same_flights _ _ h.order k.order (h.a ∙ sym k.a) (h.b ∙ sym k.b)

in_order_merged : {C : Type 0} (xs ys : List (Flight C)) → AreInOrder ys → AreInOrder (merged xs ys)
in_order_merged [] ys order = order
in_order_merged (x ∷ xs) ys order = in_order_merged xs (with_flight x ys) (in_order_with x ys order)

to_is : {C : Type 0} (s : Side) (f : Flight C) → f.to ≡ s → same_side f.to s ≡ true
to_is s f e = ap (λ (t : Side). same_side t s) e ∙ same_as_itself s

to_is_not : {C : Type 0} (s : Side) (f : Flight C) → f.to ≡ s → same_side f.to (peer s) ≡ false
to_is_not s f e = ap (λ (t : Side). same_side t (peer s)) e ∙ apart s

those_merged : {C : Type 0} (s : Side) (xs zs : List (Flight C)) → AreInOrder zs → AllByRecursion (λ f. f.to ≡ s) xs → going_to s (merged xs zs) ≡ merged xs (going_to s zs)
those_merged s [] zs order all = refl
those_merged s (x ∷ xs) zs order all =
    those_merged s xs (with_flight x zs) (in_order_with x zs order) all.1 ∙ ap (merged xs) (goes_there s x zs order (to_is s x all.0))

others_merged : {C : Type 0} (s : Side) (xs zs : List (Flight C)) → AllByRecursion (λ f. f.to ≡ s) xs → going_to (peer s) (merged xs zs) ≡ going_to (peer s) zs
others_merged s [] zs all = refl
others_merged s (x ∷ xs) zs all = others_merged s xs (with_flight x zs) all.1 ∙ goes_elsewhere (peer s) x zs (to_is_not s x all.0)

all_at : {X : Type 0} (P : X → Type 0) (done : List X) (x : X) (xs : List X) → AllByRecursion P (done ++ x ∷ xs) → P x
all_at P [] x xs all = all.0
all_at P (d ∷ done) x xs all = all_at P done x xs all.1

put_behind : {C : Type 0} (done : List (Flight C)) (x : Flight C) (xs : List (Flight C)) → AreInOrder (done ++ x ∷ xs) → with_flight x done ≡ done ++ x ∷ []
put_behind [] x xs order = refl
put_behind {C = C} (d ∷ done) x xs order =
    ap (λ (b : Bool). cond b (x ∷ d ∷ done) (d ∷ with_flight x done)) (all_at (λ h. comes_before h d ≡ false) done x xs order.0)
    ∙ ap (λ (fs : List (Flight C)). d ∷ fs) (put_behind done x xs order.1)

one_by_one : {C : Type 0} (done xs : List (Flight C)) → AreInOrder (done ++ xs) → merged xs done ≡ done ++ xs
one_by_one done [] order = sym (append-nil done)
one_by_one done (x ∷ xs) order =
    ap (merged xs) (put_behind done x xs order)
    ∙ one_by_one (done ++ x ∷ []) xs (subst AreInOrder (sym (append_assoc done (x ∷ []) xs)) order) ∙ append_assoc done (x ∷ []) xs

pub merged_is : {C : Type 0} (xs ys : List (Flight C)) → IsQueue A xs → IsQueue B ys → Merges (merged xs ys) xs ys
merged_is xs ys q r = record {
  order = in_order_merged xs ys r.order;
  a = those_merged A xs ys r.order q.all ∙ ap (merged xs) (none_go B ys r.all) ∙ one_by_one [] xs q.order;
  b = others_merged A xs ys q.all ∙ all_go B ys r.all;
}

-- ---- a copy more

queue_with : {C : Type 0} (s : Side) (f : Flight C) (xs : List (Flight C)) → f.to ≡ s → IsQueue s xs → IsQueue s (with_flight f xs)
queue_with s f xs e q = record { order = in_order_with f xs q.order; all = all_with (λ g. g.to ≡ s) f xs e q.all }

put_to_a : {C : Type 0} (f : Flight C) (xs ys : List (Flight C)) → f.to ≡ A → IsQueue A xs → IsQueue B ys → with_flight f (merged xs ys) ≡ merged (with_flight f xs) ys
put_to_a f xs ys e q r =
    let m = merged_is xs ys q r in
    let here : Merges (with_flight f (merged xs ys)) (with_flight f xs) ys = record {
      order = in_order_with f _ m.order;
      a = goes_there A f _ m.order (to_is A f e) ∙ ap (with_flight f) m.a;
      b = goes_elsewhere B f _ (to_is_not A f e) ∙ m.b;
    } in
    merges_once here (merged_is (with_flight f xs) ys (queue_with A f xs e q) r)

put_to_b : {C : Type 0} (f : Flight C) (xs ys : List (Flight C)) → f.to ≡ B → IsQueue A xs → IsQueue B ys → with_flight f (merged xs ys) ≡ merged xs (with_flight f ys)
put_to_b f xs ys e q r =
    let m = merged_is xs ys q r in
    let here : Merges (with_flight f (merged xs ys)) xs (with_flight f ys) = record {
      order = in_order_with f _ m.order;
      a = goes_elsewhere A f _ (to_is_not B f e) ∙ m.a;
      b = goes_there B f _ m.order (to_is B f e) ∙ ap (with_flight f) m.b;
    } in
    merges_once here (merged_is xs (with_flight f ys) q (queue_with B f ys e r))

pub queue_sent : {C : Type 0} (s : Side) (number : ℕ) (carried : C) (ticks : List ℕ) (xs : List (Flight C)) → IsQueue s xs → IsQueue s (with_flights s number carried ticks xs)
queue_sent s number carried [] xs q = q
queue_sent s number carried (tick ∷ ticks) xs q = queue_sent s number carried ticks _ (queue_with s _ xs refl q)

pub sent_to_a : {C : Type 0} (number : ℕ) (carried : C) (ticks : List ℕ) (xs ys : List (Flight C)) → IsQueue A xs → IsQueue B ys
    → merged (with_flights A number carried ticks xs) ys ≡ with_flights A number carried ticks (merged xs ys)
sent_to_a number carried [] xs ys q r = refl
sent_to_a number carried (tick ∷ ticks) xs ys q r =
    sent_to_a number carried ticks _ ys (queue_with A _ xs refl q) r ∙ ap (with_flights A number carried ticks) (sym (put_to_a _ xs ys refl q r))

pub sent_to_b : {C : Type 0} (number : ℕ) (carried : C) (ticks : List ℕ) (xs ys : List (Flight C)) → IsQueue A xs → IsQueue B ys
    → merged xs (with_flights B number carried ticks ys) ≡ with_flights B number carried ticks (merged xs ys)
sent_to_b number carried [] xs ys q r = refl
sent_to_b number carried (tick ∷ ticks) xs ys q r =
    sent_to_b number carried ticks xs _ q (queue_with B _ ys refl r) ∙ ap (with_flights B number carried ticks) (sym (put_to_b _ xs ys refl q r))

-- ---- a copy that arrives

-- the copies but the first that passes
abbrev removed : {X : Type 0} → (X → Bool) → List X → List X
removed p xs = cond (ltb (position_or_len p xs) (length xs)) (remove xs (position_or_len p xs)) xs

pub without_is : {C : Type 0} (p : Flight C → Bool) (xs : List (Flight C)) → without (position p xs) xs ≡ removed p xs
without_is {C = C} p xs = (elim (ltb (position_or_len p xs) (length xs)) as (λ b. (n : ℕ) → without (cond b (Some n) None) xs ≡ cond b (remove xs n) xs)
    [ true ↦ λ n. refl | false ↦ λ n. refl ]) (position_or_len p xs)

removed_first : {X : Type 0} (p : X → Bool) (x : X) (xs : List X) → removed p (x ∷ xs) ≡ cond (p x) xs (x ∷ removed p xs)
removed_first {X = X} p x xs = by (p x) (position_or_len p xs) (length xs)
  where
    later : (b : Bool) (m : ℕ) → cond b (x ∷ remove xs m) (x ∷ xs) ≡ x ∷ cond b (remove xs m) xs
    later = elim [ true ↦ λ m. refl | false ↦ λ m. refl ]

    one : (m : ℕ) → 1 + m ≡ suc m
    one m = omega arith

    test : (m n : ℕ) → (m < n) ⊎ (n ≤ m) → ltb (1 + m) (suc n) ≡ ltb m n
    test m n (inl low) = lt-ltb (1 + m) (suc n) (omega (arith, low)) ∙ sym (lt-ltb m n low)
    test m n (inr high) = le-ltb (1 + m) (suc n) (omega (arith, high)) ∙ sym (le-ltb m n high)

    by : (b : Bool) (m n : ℕ) → cond (ltb (cond (not b) (1 + m) 0) (suc n)) (remove (x ∷ xs) (cond (not b) (1 + m) 0)) (x ∷ xs) ≡ cond b xs (x ∷ cond (ltb m n) (remove xs m) xs)
    by true m n = ap (λ (b : Bool). cond b (remove (x ∷ xs) 0) (x ∷ xs)) (lt-ltb 0 (suc n) (omega arith))
    by false m n =
        ap (λ (k : ℕ). cond (ltb (1 + m) (suc n)) (remove (x ∷ xs) k) (x ∷ xs)) (one m)
        ∙ ap (λ (b : Bool). cond b (remove (x ∷ xs) (suc m)) (x ∷ xs)) (test m n (cases_lt m n)) ∙ later (ltb m n) m

removed_there : {C : Type 0} (p : Flight C → Bool) (s : Side) → ((f : Flight C) → p f ≡ true → same_side f.to s ≡ true) → (flights : List (Flight C))
    → going_to s (removed p flights) ≡ removed p (going_to s flights)
removed_there p s to [] = refl
removed_there {C = C} p s to (f ∷ flights) = ap (going_to s) (removed_first p f flights) ∙ by (p f) refl (same_side f.to s) refl (removed_there p s to flights)
  where
    G : List (Flight C)
    G = going_to s flights

    by : (b : Bool) → p f ≡ b → (t : Bool) → same_side f.to s ≡ t → going_to s (removed p flights) ≡ removed p G
        → going_to s (cond b flights (f ∷ removed p flights)) ≡ removed p (cond t (f ∷ G) G)
    by true e true d rest = sym (removed_first p f G ∙ ap (λ (b : Bool). cond b G (f ∷ removed p G)) e)
    by true e false d rest = absurd (false≢true (sym d ∙ to f e))
    by false e true d rest =
        ap (λ (t : Bool). cond t (f ∷ going_to s (removed p flights)) (going_to s (removed p flights))) d ∙ ap (λ (gs : List (Flight C)). f ∷ gs) rest
        ∙ sym (removed_first p f G ∙ ap (λ (b : Bool). cond b G (f ∷ removed p G)) e)
    by false e false d rest = ap (λ (t : Bool). cond t (f ∷ going_to s (removed p flights)) (going_to s (removed p flights))) d ∙ rest

removed_elsewhere : {C : Type 0} (p : Flight C → Bool) (s : Side) → ((f : Flight C) → p f ≡ true → same_side f.to s ≡ false) → (flights : List (Flight C))
    → going_to s (removed p flights) ≡ going_to s flights
removed_elsewhere p s to [] = refl
removed_elsewhere {C = C} p s to (f ∷ flights) = ap (going_to s) (removed_first p f flights) ∙ by (p f) refl (removed_elsewhere p s to flights)
  where
    by : (b : Bool) → p f ≡ b → going_to s (removed p flights) ≡ going_to s flights → going_to s (cond b flights (f ∷ removed p flights)) ≡ going_to s (f ∷ flights)
    by true e rest = sym (ap (λ (t : Bool). cond t (f ∷ going_to s flights) (going_to s flights)) (to f e))
    by false e rest = ap (λ (gs : List (Flight C)). cond (same_side f.to s) (f ∷ gs) gs) rest

all_removed : {X : Type 0} (P : X → Type 0) (p : X → Bool) (xs : List X) → AllByRecursion P xs → AllByRecursion P (removed p xs)
all_removed P p [] all = tt
all_removed P p (x ∷ xs) all = subst (AllByRecursion P) (sym (removed_first p x xs)) (by (p x) (all_removed P p xs all.1))
  where
    by : (b : Bool) → AllByRecursion P (removed p xs) → AllByRecursion P (cond b xs (x ∷ removed p xs))
    by = elim [ true ↦ λ rest. all.1 | false ↦ λ rest. (all.0, rest) ]

order_removed : {C : Type 0} (p : Flight C → Bool) (xs : List (Flight C)) → AreInOrder xs → AreInOrder (removed p xs)
order_removed p xs order = elim (ltb (position_or_len p xs) (length xs)) as (λ b. AreInOrder (cond b (remove xs (position_or_len p xs)) xs))
    [ true ↦ in_order_removed xs (position_or_len p xs) order | false ↦ order ]

queue_removed : {C : Type 0} (p : Flight C → Bool) (s : Side) (xs : List (Flight C)) → IsQueue s xs → IsQueue s (removed p xs)
queue_removed p s xs q = record { order = order_removed p xs q.order; all = all_removed (λ f. f.to ≡ s) p xs q.all }

goes_where : {C : Type 0} (s : Side) (due : Due) → due.to ≡ s → (f : Flight C) → is_due due f ≡ true → same_side f.to s ≡ true
goes_where s due e f is =
    let parts = and_parts (f.tick == due.tick) (same_side f.to due.to && f.number == due.copy) is in
    ap (same_side f.to) (sym e) ∙ (and_parts (same_side f.to due.to) (f.number == due.copy) parts.1).0

not_where : {C : Type 0} (s : Side) (due : Due) → due.to ≡ s → (f : Flight C) → is_due due f ≡ true → same_side f.to (peer s) ≡ false
not_where s due e f is = to_is_not s f (side_is f.to s (goes_where s due e f is))

pub queue_without : {C : Type 0} (s : Side) (due : Due) (xs : List (Flight C)) → IsQueue s xs → IsQueue s (without (position (is_due due) xs) xs)
queue_without s due xs q = subst (IsQueue s) (sym (without_is (is_due due) xs)) (queue_removed (is_due due) s xs q)

pub taken_to_a : {C : Type 0} (due : Due) (xs ys : List (Flight C)) → due.to ≡ A → IsQueue A xs → IsQueue B ys
    → merged (without (position (is_due due) xs) xs) ys ≡ without (position (is_due due) (merged xs ys)) (merged xs ys)
taken_to_a {C = C} due xs ys e q r =
    let m = merged_is xs ys q r in
    let here : Merges (removed (is_due due) (merged xs ys)) (removed (is_due due) xs) ys = record {
      order = order_removed (is_due due) (merged xs ys) m.order;
      a = removed_there (is_due due) A (goes_where A due e) (merged xs ys) ∙ ap (removed (is_due due)) m.a;
      b = removed_elsewhere (is_due due) B (not_where A due e) (merged xs ys) ∙ m.b;
    } in
    ap (λ (zs : List (Flight C)). merged zs ys) (without_is (is_due due) xs)
    ∙ merges_once (merged_is (removed (is_due due) xs) ys (queue_removed (is_due due) A xs q) r) here ∙ sym (without_is (is_due due) (merged xs ys))

pub taken_to_b : {C : Type 0} (due : Due) (xs ys : List (Flight C)) → due.to ≡ B → IsQueue A xs → IsQueue B ys
    → merged xs (without (position (is_due due) ys) ys) ≡ without (position (is_due due) (merged xs ys)) (merged xs ys)
taken_to_b {C = C} due xs ys e q r =
    let m = merged_is xs ys q r in
    let here : Merges (removed (is_due due) (merged xs ys)) xs (removed (is_due due) ys) = record {
      order = order_removed (is_due due) (merged xs ys) m.order;
      a = removed_elsewhere (is_due due) A (not_where B due e) (merged xs ys) ∙ m.a;
      b = removed_there (is_due due) B (goes_where B due e) (merged xs ys) ∙ ap (removed (is_due due)) m.b;
    } in
    ap (merged xs) (without_is (is_due due) ys)
    ∙ merges_once (merged_is xs (removed (is_due due) ys) q (queue_removed (is_due due) B ys r)) here ∙ sym (without_is (is_due due) (merged xs ys))

-- ---- the copy that is due

found_there : {C : Type 0} (p : Flight C → Bool) (s : Side) → ((f : Flight C) → p f ≡ true → same_side f.to s ≡ true) → (flights : List (Flight C)) → find p (going_to s flights) ≡ find p flights
found_there p s to [] = refl
found_there {C = C} p s to (f ∷ flights) = by (p f) refl (same_side f.to s) refl (found_there p s to flights)
  where
    by : (b : Bool) → p f ≡ b → (t : Bool) → same_side f.to s ≡ t → find p (going_to s flights) ≡ find p flights
        → find p (cond t (f ∷ going_to s flights) (going_to s flights)) ≡ cond b (Some f) (find p flights)
    by true e true d rest = ap (λ (b : Bool). cond b (Some f) (find p (going_to s flights))) e
    by true e false d rest = absurd (false≢true (sym d ∙ to f e))
    by false e true d rest = ap (λ (b : Bool). cond b (Some f) (find p (going_to s flights))) e ∙ rest
    by false e false d rest = rest

pub found_to_a : {C : Type 0} (due : Due) (xs ys : List (Flight C)) → due.to ≡ A → IsQueue A xs → IsQueue B ys → find (is_due due) xs ≡ find (is_due due) (merged xs ys)
found_to_a due xs ys e q r =
    let m = merged_is xs ys q r in
    ap (find (is_due due)) (sym m.a) ∙ found_there (is_due due) A (goes_where A due e) (merged xs ys)

pub found_to_b : {C : Type 0} (due : Due) (xs ys : List (Flight C)) → due.to ≡ B → IsQueue A xs → IsQueue B ys → find (is_due due) ys ≡ find (is_due due) (merged xs ys)
found_to_b due xs ys e q r =
    let m = merged_is xs ys q r in
    ap (find (is_due due)) (sym m.b) ∙ found_there (is_due due) B (goes_where B due e) (merged xs ys)

due_first : {C : Type 0} (l xs ys : List (Flight C)) → Merges l xs ys → IsQueue A xs → IsQueue B ys → next_due l ≡ first_due xs ys
due_first [] xs ys h q r = ap (λ (zs : List (Flight _)). first_due zs []) h.a ∙ ap (λ (zs : List (Flight _)). first_due xs zs) h.b
due_first {C = C} (f ∷ fs) xs ys h q r = (elim f.to as (λ s. f.to ≡ s → Some (due_of f) ≡ first_due xs ys)
    [ A ↦ λ e. among xs ys (sym h.a ∙ goes_first A f fs e) (sym (passes_by A f fs e) ∙ h.b) e r | B ↦ λ e. behind xs ys (sym h.b ∙ goes_first B f fs e) (sym (passes_by B f fs e) ∙ h.a) ]) refl
  where
    among : (xs ys : List (Flight C)) → xs ≡ f ∷ going_to A fs → going_to B fs ≡ ys → f.to ≡ A → IsQueue B ys → Some (due_of f) ≡ first_due xs ys
    among [] ys is rest e r = absurd cc
    among (x ∷ xs) [] is rest e r = let same : f ≡ x = cc in ap (λ (g : Flight C). Some (due_of g)) same
    among (x ∷ xs) (g ∷ ys) is rest e r =
        let same : x ≡ f = cc in
        let later : comes_before g f ≡ false = first_is (λ h. comes_before h f ≡ false) B fs g ys h.order.0 rest in
        let first : comes_before f g ≡ true = low (comes_before f g) refl later e r.all.0 in
        subst (λ (z : Flight C). Some (due_of f) ≡ cond (comes_before z g) (Some (due_of z)) (Some (due_of g))) (sym same)
        (sym (ap (λ (b : Bool). cond b (Some (due_of f)) (Some (due_of g))) first))
      where
        low : (b : Bool) → comes_before f g ≡ b → comes_before g f ≡ false → f.to ≡ A → g.to ≡ B → comes_before f g ≡ true
        low = elim [ true ↦ λ e later fa gb. e | false ↦ λ e later fa gb. absurd (one_is_first f g fa gb e later) ]

    behind : (xs ys : List (Flight C)) → ys ≡ f ∷ going_to B fs → going_to A fs ≡ xs → Some (due_of f) ≡ first_due xs ys
    behind xs [] is rest = absurd cc
    behind [] (y ∷ ys) is rest = let same : f ≡ y = cc in ap (λ (g : Flight C). Some (due_of g)) same
    behind (g ∷ xs) (y ∷ ys) is rest =
        let same : y ≡ f = cc in
        let later : comes_before g f ≡ false = first_is (λ h. comes_before h f ≡ false) A fs g xs h.order.0 rest in
        subst (λ (z : Flight C). Some (due_of f) ≡ cond (comes_before g z) (Some (due_of g)) (Some (due_of z))) (sym same)
        (sym (ap (λ (b : Bool). cond b (Some (due_of g)) (Some (due_of f))) later))

pub due_of_both : {C : Type 0} (xs ys : List (Flight C)) → IsQueue A xs → IsQueue B ys → first_due xs ys ≡ next_due (merged xs ys)
due_of_both xs ys q r = sym (due_first (merged xs ys) xs ys (merged_is xs ys q r) q r)

-- ---- what comes of a call on one of them

module _ {C : Type 0} (number : ℕ) (carried : C) (ticks : List ℕ) (to : Side) where
  -- the copies that go to the side of the call go to this one
  goes_to : (s : Side) → to ≡ s → (flights : List (Flight C)) → with_flights to number carried ticks flights ≡ with_flights s number carried ticks flights
  goes_to s e flights = ap (λ (t : Side). with_flights t number carried ticks flights) e

  pub queue_launched : {E : Type 0} (s : Side) → to ≡ s → (old new : List (Flight C)) (r : Result (Unit {0}) E)
      → OnOk r (new ≡ with_flights to number carried ticks old) → OnErr r (new ≡ old) → IsQueue s old → IsQueue s new
  queue_launched s e old new (Ok x) ok err q = subst (IsQueue s) (sym (ok ∙ goes_to s e old)) (queue_sent s number carried ticks old q)
  queue_launched s e old new (Err x) ok err q = subst (IsQueue s) (sym err) q

  pub launched_to_a : {E : Type 0} → to ≡ A → (xs new ys : List (Flight C)) (r : Result (Unit {0}) E) → IsQueue A xs → IsQueue B ys
      → OnOk r (new ≡ with_flights to number carried ticks xs) → OnOk r (merged new ys ≡ with_flights to number carried ticks (merged xs ys))
  launched_to_a e xs new ys (Ok x) q r ok =
      ap (λ (zs : List (Flight C)). merged zs ys) (ok ∙ goes_to A e xs) ∙ sent_to_a number carried ticks xs ys q r ∙ sym (goes_to A e (merged xs ys))
  launched_to_a e xs new ys (Err x) q r ok = tt

  pub launched_to_b : {E : Type 0} → to ≡ B → (xs ys new : List (Flight C)) (r : Result (Unit {0}) E) → IsQueue A xs → IsQueue B ys
      → OnOk r (new ≡ with_flights to number carried ticks ys) → OnOk r (merged xs new ≡ with_flights to number carried ticks (merged xs ys))
  launched_to_b e xs ys new (Ok x) q r ok =
      ap (merged xs) (ok ∙ goes_to B e ys) ∙ sent_to_b number carried ticks xs ys q r ∙ sym (goes_to B e (merged xs ys))
  launched_to_b e xs ys new (Err x) q r ok = tt
