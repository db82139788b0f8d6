-- What the rule of a book's table tells of its seats.
--
-- The key of a table can be a `Snapshot` of what was put into its slot: it is a type's argument there, and does no harm
-- to `Send` and `Sync`. So what a lock was given is a value of the table and no type has to name it.
use Rattle.ruled_desk.proofs.Words.{◌≡◌, refl, sym, ap, subst, ℕ, zero, suc, ◌^◌, ◌<◌, ◌≤◌, inl, inr, Bool, true, false, List, [], ◌∷◌, ◌++◌, length, Option}
use Rattle.ruled_desk.proofs.Words.{arith, ◌+◌, set, ⊎_elim, eqb, ◌≢◌, ◌%◌, MatchBool, append_assoc, append-nil, nat_tests, some, get_elem?, State, Me, at_set}
use Rattle.ruled_desk.proofs.Words.{one_turn, Journaled, Entry, View, HasLastStamp, grown, IsWaiting, HasTaken, IsRuled, Fits, IsLooked, weigh, span, bit}
use Rattle.ruled_desk.proofs.Weights.{weigh-one, weigh-two, weigh-le, span-ones}

pub one_out : (b : Bool) → 1 ≤ bit b → b ≡ true
one_out = elim [ true ↦ λ some_one. refl | false ↦ λ some_one. absurd (omega (arith, some_one)) ]

pub length_none : {X : Type 0} (xs : List X) → length xs ≡ 0 → xs ≡ []
length_none [] e = refl
length_none (x ∷ xs) e = absurd (omega (arith, e))

-- a number that has weight in a span lies in it
pub span-in : (n first count : ℕ) → 1 ≤ span (λ k. bit (eqb k n)) first count → (first ≤ n) × (n < first + count)
span-in n first zero some_one = absurd (omega (arith, some_one))
span-in n first (suc count) some_one = (elim (eqb first n) as (λ b. eqb first n ≡ b → (1 ≤ span (λ k. bit (eqb k n)) (suc first) count → (suc first ≤ n) × (n < suc first + count)) → (first ≤ n) × (n < first + suc count)) [
  | true ↦ λ e later. let same : first ≡ n = grind (arith, nat_tests) in (omega (arith, same), omega (arith, same))
  | false ↦ λ e later. let none : bit (eqb first n) ≡ 0 = ap bit e in let there = later (omega (arith, some_one, none)) in (omega (arith, there.0), omega (arith, there.1))
]) refl (span-in n (suc first) count)

module _ {C R : Type 0} where
  -- a full journal stays full
  pub last-append : (xs ys : List (Entry C R)) → HasLastStamp xs → HasLastStamp (xs ++ ys)
  last-append [] ys h = absurd h
  last-append (x ∷ xs) ys (inl here) = inl here
  last-append (x ∷ xs) ys (inr there) = inr (last-append xs ys there)

module _ {O C R : Type 0} where
  pub grown-grown : (start : Journaled O C R) (log more : List (Entry C R)) → grown (grown start log) more ≡ grown start (log ++ more)
  grown-grown start log more = ap (λ (es : List (Entry C R)). record { opening = start.opening; journal = es }) (append_assoc start.journal log more)

  pub grown-none : (start : Journaled O C R) → start ≡ grown start []
  grown-none start = ap (λ (es : List (Entry C R)). record { opening = start.opening; journal = es }) (sym (append-nil start.journal))

  -- the log of a full journal goes on
  pub last-more : (start : Journaled O C R) (log more : List (Entry C R)) → HasLastStamp (start.journal ++ log) → HasLastStamp (start.journal ++ (log ++ more))
  last-more start log more h = subst HasLastStamp (append_assoc start.journal log more) (last-append (start.journal ++ log) more h)

  -- what fits each seat still does, where one has another view
  pub fits-set : (start : Journaled O C R) (served after : ℕ) (log more : List (Entry C R)) (vs : List (View (Journaled O C R) (Entry C R))) (seat : ℕ)
      (w : View (Journaled O C R) (Entry C R))
      → ((other : ℕ) (u : View (Journaled O C R) (Entry C R)) → get_elem? vs other ≡ some u → other ≢ seat → Fits start served log other u → Fits start after more other u)
      → Fits start after more seat w
      → ((other : ℕ) (u : View (Journaled O C R) (Entry C R)) → get_elem? vs other ≡ some u → Fits start served log other u)
      → (other : ℕ) (u : View (Journaled O C R) (Entry C R)) → get_elem? (set vs seat w) other ≡ some u → Fits start after more other u
  fits-set start served after more_before more vs seat w others here old other u at = ⊎_elim
      (λ t. subst (λ k. Fits start after more k u) (sym t.0) (subst (λ x. Fits start after more seat x) t.1 here))
      (λ t. others other u t.1 t.0 (old other u t.1))
      (at_set vs seat other w u at)

  -- where no book is out, no seat has one
  pub none-hold : (start : Journaled O C R) (s : State (Option (Journaled O C R)) (View (Journaled O C R) (Entry C R))) (kept : IsRuled start s) → kept.out ≡ false
      → (seat : ℕ) (v : View (Journaled O C R) (Entry C R)) → get_elem? s.views seat ≡ some v → v.took ≡ []
  none-hold start s kept home seat v at =
      let one = weigh-one (λ u. length u.took) s.views seat v at in
      let out : bit kept.out ≡ 0 = ap bit home in
      length_none v.took (omega (arith, one, kept.holders, out))

  -- who has the book has it alone
  pub holds-alone : (start : Journaled O C R) (s : State (Option (Journaled O C R)) (View (Journaled O C R) (Entry C R))) (kept : IsRuled start s)
      (seat : ℕ) (v : View (Journaled O C R) (Entry C R)) (book : Journaled O C R) → get_elem? s.views seat ≡ some v → v.took ≡ book ∷ []
      → (kept.out ≡ true) × ((other : ℕ) (u : View (Journaled O C R) (Entry C R)) → get_elem? s.views other ≡ some u → other ≢ seat → u.took ≡ [])
  holds-alone start s kept seat v book at took =
      let has : length v.took ≡ 1 = ap length took in
      let one = weigh-one (λ u. length u.took) s.views seat v at in
      let out = one_out kept.out (omega (arith, one, kept.holders, has)) in
      let bits : bit kept.out ≡ 1 = ap bit out in
      (out, λ other u there apart. let two = weigh-two (λ x. length x.took) s.views seat other v u at there apart in length_none u.took (omega (arith, two, kept.holders, has, bits)))

  -- no more wait than there are parts
  pub few-wait : (start : Journaled O C R) (s : State (Option (Journaled O C R)) (View (Journaled O C R) (Entry C R))) (kept : IsRuled start s) → kept.count ≤ 1024
  few-wait start s kept =
      let all = kept.tickets (λ _. 1) in
      let ones = span-ones kept.first kept.count in
      let le = weigh-le (λ v. weigh (λ _. 1) v.tickets) (λ v. v.parts) s.views
      (λ seat v at. let room = (kept.fits seat v at).room in let same = counts v.tickets in omega (arith, room, same)) in
      omega (arith, all, ones, le, kept.parts)
    where
      counts : (xs : List ℕ) → weigh (λ _. 1) xs ≡ length xs
      counts [] = refl
      counts (x ∷ xs) = let rest = counts xs in omega arith

  -- a ticket with which a seat waits is one of those that wait
  pub waits-among : (start : Journaled O C R) (s : State (Option (Journaled O C R)) (View (Journaled O C R) (Entry C R))) (kept : IsRuled start s)
      (seat : ℕ) (v : View (Journaled O C R) (Entry C R)) (n : ℕ) → get_elem? s.views seat ≡ some v → v.tickets ≡ n ∷ []
      → (kept.first ≤ n) × (n < kept.first + kept.count)
  waits-among start s kept seat v n at waits =
      let here : weigh (λ k. bit (eqb k n)) v.tickets ≡ bit (eqb n n) + 0 = ap (weigh (λ k. bit (eqb k n))) waits in
      let same : bit (eqb n n) ≡ 1 = (elim (eqb n n) as (λ b. eqb n n ≡ b → bit b ≡ 1) [ true ↦ λ e. refl | false ↦ λ e. absurd (grind (arith, nat_tests)) ]) refl in
      let one = weigh-one (λ u. weigh (λ k. bit (eqb k n)) u.tickets) s.views seat v at in
      span-in n kept.first kept.count (omega (arith, one, here, same, kept.tickets (λ k. bit (eqb k n))))

-- the ticket that is served is the first of those that wait, where it is among them, and the book is at home
pub first-turn : (serving first n : ℕ) (out : Bool) → (serving + bit out) % 2 ^ 64 ≡ first % 2 ^ 64 → serving ≡ n % 2 ^ 64 → first ≤ n → n < first + 1024
    → (out ≡ false) × (n ≡ first)
first-turn serving first n true turn found from to =
    let later : first % 2 ^ 64 ≡ (n + 1) % 2 ^ 64 = omega (arith, turn, found) in
    let same = one_turn first (n + 1) (2 ^ 64) (omega (arith, from)) (omega (arith, to)) later in
    absurd (omega (arith, same, from))
first-turn serving first n false turn found from to =
    let now : first % 2 ^ 64 ≡ n % 2 ^ 64 = omega (arith, turn, found) in
    (refl, sym (one_turn first n (2 ^ 64) from (omega (arith, to)) now))

-- ---- what a look told

module _ {B E : Type 0} where
  looked : (found shown : ℕ) (me after : Me (Option B) (View B E)) → (waits : IsWaiting me shown) → IsLooked me found after → MatchBool (eqb found shown) (HasTaken me after) (after ≡ me)
  looked found shown me after waits told =
      subst (λ n. MatchBool (eqb found n) (HasTaken me after) (after ≡ me)) (sym waits.drawn) (told waits.ticket waits.waits)

  pub looked_taken : (found shown : ℕ) (me after : Me (Option B) (View B E)) → IsWaiting me shown → IsLooked me found after → eqb found shown ≡ true → HasTaken me after
  looked_taken found shown me after waits told hit = subst (λ b. MatchBool b (HasTaken me after) (after ≡ me)) hit (looked found shown me after waits told)

  pub looked_still : (found shown : ℕ) (me after : Me (Option B) (View B E)) → IsWaiting me shown → IsLooked me found after → eqb found shown ≡ false → after ≡ me
  looked_still found shown me after waits told miss = subst (λ b. MatchBool b (HasTaken me after) (after ≡ me)) miss (looked found shown me after waits told)
