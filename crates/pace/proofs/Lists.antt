-- The words on segments on their way, as one is put at the end or taken from the front.
use Rattle.std.proofs.Common.{◌≡◌, refl, sym, subst, ℕ, zero, suc, ◌+◌, ◌≤◌, ◌⊎◌, inl, inr, ⊎_elim, List, [], ◌∷◌, ◌++◌, Option, Some, None, IfSome, le_of_eq, arith}
use Rattle.pace.specs.Lane.{Telling, Copy}
use Rattle.pace.specs.Rules.{repeats, next_row}
use Rattle.pace.specs.Lists.{In, OneHas, Timed, Chain, Stays, first_at, repeated, LastIs, data_fins}

-- ---- one of them

pub in_more : (c : Copy) (xs ys : List Copy) → In c xs → In c (xs ++ ys)
in_more c [] ys h = absurd h
in_more c (x ∷ xs) ys (inl e) = inl e
in_more c (x ∷ xs) ys (inr h) = inr (in_more c xs ys h)

pub in_last : (c : Copy) (xs : List Copy) → In c (xs ++ c ∷ [])
in_last c [] = inl refl
in_last c (x ∷ xs) = inr (in_last c xs)

-- one of a longer list is one of the list, or is the last
pub in_either : (x c : Copy) (xs : List Copy) → In c (xs ++ x ∷ []) → In c xs ⊎ (c ≡ x)
in_either x c [] (inl e) = inr e
in_either x c [] (inr h) = absurd h
in_either x c (y ∷ xs) (inl e) = inl (inl e)
in_either x c (y ∷ xs) (inr h) = ⊎_elim (λ i. inl (inr i)) (λ e. inr e) (in_either x c xs h)

-- what holds of each of them and of one more
pub each_more : (P : Copy → Type 0) (x : Copy) (xs : List Copy) → P x → ((c : Copy) → In c xs → P c) → (c : Copy)
    → In c (xs ++ x ∷ []) → P c
each_more P x xs here all c i = ⊎_elim (λ among. all c among) (λ e. subst P (sym e) here) (in_either x c xs i)

pub one_more : (P : Copy → Type 0) (xs ys : List Copy) → OneHas P xs → OneHas P (xs ++ ys)
one_more P xs ys h = record { copy = h.copy; among = in_more h.copy xs ys h.among; has = h.has }

-- ---- where a segment is

pub stays_more : (Done : Copy → Type 0) (before xs ys : List Copy) → Stays Done before xs → Stays Done before (xs ++ ys)
stays_more Done before xs ys h c i = ⊎_elim (λ among. inl (in_more c xs ys among)) (λ done. inr done) (h c i)

pub stays_done : (Done Later : Copy → Type 0) (before xs : List Copy) → ((c : Copy) → Done c → Later c)
    → Stays Done before xs → Stays Later before xs
stays_done Done Later before xs more h c i = ⊎_elim (λ among. inl among) (λ done. inr (more c done)) (h c i)

-- the first is taken
pub stays_taken : (Done Later : Copy → Type 0) (before : List Copy) (x : Copy) (xs : List Copy)
    → ((c : Copy) → Done c → Later c) → Later x
    → Stays Done before (x ∷ xs) → Stays Later before xs
stays_taken Done Later before x xs more here h c i = ⊎_elim
    (λ among. ⊎_elim (λ e. inr (subst Later (sym e) here)) (λ rest. inl rest) among)
    (λ done. inr (more c done))
    (h c i)

-- ---- their ticks

pub timed_more : (from to : ℕ) (x : Copy) (cs : List Copy) → x.at ≡ to → Timed from cs to → Timed from (cs ++ x ∷ []) to
timed_more from to x [] e h = (omega (arith, e, h), omega (arith, e))
timed_more from to x (c ∷ cs) e h = (h.0, timed_more c.at to x cs e h.1)

pub timed_up : (from to later : ℕ) (cs : List Copy) → to ≤ later → Timed from cs to → Timed from cs later
timed_up from to later [] up h = omega (arith, up, h)
timed_up from to later (c ∷ cs) up h = (h.0, timed_up c.at to later cs up h.1)

-- the clock goes on to a tick that is not past the first arrival
pub timed_moved : (from to tick end later : ℕ) (cs : List Copy) → tick ≤ first_at end cs → tick ≤ later
    → to ≤ later → Timed from cs to → Timed tick cs later
timed_moved from to tick end later [] first within up h = within
timed_moved from to tick end later (c ∷ cs) first within up h = (first, timed_up c.at to later cs up h.1)

pub timed_from : (from before to : ℕ) (cs : List Copy) → before ≤ from → Timed from cs to → Timed before cs to
timed_from from before to [] down h = omega (arith, down, h)
timed_from from before to (c ∷ cs) down h = (omega (arith, down, h.0), h.1)

pub timed_within : (from to : ℕ) (cs : List Copy) (c : Copy) → Timed from cs to → In c cs → (from ≤ c.at) × (c.at ≤ to)
timed_within from to [] c h i = absurd i
timed_within from to (x ∷ xs) c h (inl e) =
    subst (λ (y : Copy). (from ≤ y.at) × (y.at ≤ to)) (sym e) (h.0, timed_to x.at to xs h.1)
  where
    timed_to : (low high : ℕ) (cs : List Copy) → Timed low cs high → low ≤ high
    timed_to low high [] t = t
    timed_to low high (y ∷ ys) t = let rest = timed_to y.at high ys t.1 in omega (arith, t.0, rest)
timed_within from to (x ∷ xs) c h (inr i) =
    let rest = timed_within x.at to xs c h.1 i in
    (omega (arith, h.0, rest.0), rest.1)

-- ---- their bytes

pub chain_more : (low high : ℕ) (x : Copy) (cs : List Copy) → x.low ≡ high → high ≤ x.high → Chain low cs high
    → Chain low (cs ++ x ∷ []) x.high
chain_more low high x [] e up h = (omega (arith, e, h), omega (arith, up, h), refl)
chain_more low high x (c ∷ cs) e up h = (h.0, h.1, chain_more c.high high x cs e up h.2)

pub chain_le : (low high : ℕ) (cs : List Copy) → Chain low cs high → low ≤ high
chain_le low high [] h = le_of_eq h
chain_le low high (c ∷ cs) h = let rest = chain_le c.high high cs h.2 in omega (arith, h.1, rest)

-- a chain of no bytes, or one of its segments has the last of them
pub chain_has : (low high : ℕ) (cs : List Copy) → Chain low cs high → (high ≤ low) ⊎ OneHas (λ c. high ≤ c.high) cs
chain_has low high [] h = inl (le_of_eq (sym h))
chain_has low high (c ∷ cs) h = ⊎_elim
    (λ none. inr (record { copy = c; among = inl refl; has = none }))
    (λ one. inr (record { copy = one.copy; among = inr one.among; has = one.has }))
    (chain_has c.high high cs h.2)

-- ---- what they tell

pub last_more : (before last : Telling) (x : Copy) (cs : List Copy) → LastIs before cs last
    → LastIs before (cs ++ x ∷ []) x.telling
last_more before last x [] h = refl
last_more before last x (c ∷ cs) h = last_more c.telling last x cs h

pub repeated_more : (before last : Telling) (x : Copy) (cs : List Copy) → LastIs before cs last
    → repeated before (cs ++ x ∷ []) ≡ repeated before cs + repeats last x
repeated_more before last x [] h = subst (λ (t : Telling). repeats before x + 0 ≡ 0 + repeats t x) h (omega arith)
repeated_more before last x (c ∷ cs) h = let rest = repeated_more c.telling last x cs h in omega (arith, rest)

pub row_within : (n row : ℕ) → next_row n row ≤ row + n
row_within zero row = omega arith
row_within (suc n) row = omega arith

pub data_fins_more : (x : Copy) (cs : List Copy) → data_fins (cs ++ x ∷ []) ≡ data_fins cs + x.data_fin
data_fins_more x [] = omega arith
data_fins_more x (c ∷ cs) = let rest = data_fins_more x cs in omega (arith, rest)

-- ---- timers

pub if_some_map : (P Q : ℕ → Type 0) (o : Option ℕ) → ((x : ℕ) → P x → Q x) → IfSome o P → IfSome o Q
if_some_map P Q None more h = tt
if_some_map P Q (Some x) more h = more x h
