-- The words on copies, as some are added and one is taken.
use Rattle.std.proofs.Common.{◌≡◌, refl, sym, ◌∙◌, subst, ℕ, suc, ◌<◌, ◌≤◌, ◌⊎◌, inl, inr, ⊎_elim, List, [], ◌∷◌, ◌++◌, length, Option, Some, None, IfSome, arith}
use Rattle.std.proofs.lemmas.Bool.{cases_lt}
use Rattle.whole_paths.specs.Lanes.Lane.{Setting, Copy, In, Mem, NoneBefore, copy_of}
use Rattle.whole_paths.specs.Lanes.Moves.{Fate, AckFate}
use Rattle.whole_paths.specs.Lanes.Going.{OneHas}

pub in_left : (c : Copy) (xs ys : List Copy) → In c xs → In c (xs ++ ys)
in_left c [] ys h = absurd h
in_left c (x ∷ xs) ys (inl e) = inl e
in_left c (x ∷ xs) ys (inr h) = inr (in_left c xs ys h)

pub in_right : (c : Copy) (xs ys : List Copy) → In c ys → In c (xs ++ ys)
in_right c [] ys h = h
in_right c (x ∷ xs) ys h = inr (in_right c xs ys h)

pub in_either : (c : Copy) (xs ys : List Copy) → In c (xs ++ ys) → In c xs ⊎ In c ys
in_either c [] ys h = inr h
in_either c (x ∷ xs) ys (inl e) = inl (inl e)
in_either c (x ∷ xs) ys (inr h) = ⊎_elim (λ i. inl (inr i)) (λ i. inr i) (in_either c xs ys h)

-- the one that is taken is there
pub in_middle : (c : Copy) (front back : List Copy) → In c (front ++ c ∷ back)
in_middle c [] back = inl refl
in_middle c (x ∷ front) back = inr (in_middle c front back)

-- the others stay
pub in_rest : (c x : Copy) (front back : List Copy) → In x (front ++ back) → In x (front ++ c ∷ back)
in_rest c x [] back h = inr h
in_rest c x (y ∷ front) back (inl e) = inl e
in_rest c x (y ∷ front) back (inr h) = inr (in_rest c x front back h)

pub in_or_taken : (c x : Copy) (front back : List Copy) → In x (front ++ c ∷ back) → (x ≡ c) ⊎ In x (front ++ back)
in_or_taken c x [] back (inl e) = inl e
in_or_taken c x [] back (inr h) = inr h
in_or_taken c x (y ∷ front) back (inl e) = inr (inl e)
in_or_taken c x (y ∷ front) back (inr h) = ⊎_elim (λ e. inl e) (λ i. inr (inr i)) (in_or_taken c x front back h)

pub one_more : (P : Copy → Type 0) (xs ys : List Copy) → OneHas P ys → OneHas P (xs ++ ys)
one_more P xs ys h = record { copy = h.copy; among = in_right h.copy xs ys h.among; has = h.has }

-- where one is taken of those that are there, one that has it is that one, or it is left
pub one_taken : (P : Copy → Type 0) (c : Copy) (front back all : List Copy) → all ≡ front ++ c ∷ back → OneHas P all → P c ⊎ OneHas P (front ++ back)
one_taken P c front back all are h =
    ⊎_elim (λ same. inl (subst P same h.has)) (λ left. inr (record { copy = h.copy; among = left; has = h.has }))
    (in_or_taken c h.copy front back (subst (In h.copy) are h.among))

pub taken_is : (c : Copy) (front back all : List Copy) → all ≡ front ++ c ∷ back → In c all
taken_is c front back all are = subst (In c) (sym are) (in_middle c front back)

pub left_is : (c x : Copy) (front back all : List Copy) → all ≡ front ++ c ∷ back → In x (front ++ back) → In x all
left_is c x front back all are h = subst (In x) (sym are) (in_rest c x front back h)

-- ---- what becomes of a segment

pub fate_after : (k : Setting) (now number harms left : ℕ) (copies : List Copy) → Fate k now number harms left copies → NoneBefore now copies
fate_after k now number harms left copies (Fate.arrives more late) c (inl e) = subst (λ (x : Copy). now ≤ x.at) (sym e) (omega arith)
fate_after k now number harms left copies (Fate.arrives more late) c (inr i) = late c i
fate_after k now number harms left copies (Fate.harmed fewer one more late) c i = late c i

pub fate_left : (k : Setting) (now number harms left : ℕ) (copies : List Copy) → Fate k now number harms left copies → left ≤ harms
fate_left k now number harms left copies (Fate.arrives more late) = omega arith
fate_left k now number harms left copies (Fate.harmed fewer one more late) = omega (arith, one)

-- a line is used, or the segment is on its way
pub fate_sent : (k : Setting) (now number harms left : ℕ) (copies : List Copy) → Fate k now number harms left copies
    → (harms ≡ suc left) ⊎ ((left ≡ harms) × In (copy_of k now number) copies)
fate_sent k now number harms left copies (Fate.arrives more late) = inr (refl, inl refl)
fate_sent k now number harms left copies (Fate.harmed fewer one more late) = inl one

pub ack_fate_are : (k : Setting) (now number harms left : ℕ) (copies : List Copy) → AckFate k now number harms left copies
    → (c : Copy) → In c copies → c ≡ copy_of k now number
ack_fate_are k now number harms left copies AckFate.comes c (inl e) = e
ack_fate_are k now number harms left copies AckFate.comes c (inr i) = absurd i
ack_fate_are k now number harms left copies (AckFate.lost fewer one) c i = absurd i

pub ack_fate_left : (k : Setting) (now number harms left : ℕ) (copies : List Copy) → AckFate k now number harms left copies → left ≤ harms
ack_fate_left k now number harms left copies AckFate.comes = omega arith
ack_fate_left k now number harms left copies (AckFate.lost fewer one) = omega (arith, one)

pub ack_fate_sent : (k : Setting) (now number harms left : ℕ) (copies : List Copy) → AckFate k now number harms left copies
    → (harms ≡ suc left) ⊎ ((left ≡ harms) × In (copy_of k now number) copies)
ack_fate_sent k now number harms left copies AckFate.comes = inr (refl, inl refl)
ack_fate_sent k now number harms left copies (AckFate.lost fewer one) = inl one

pub none_of_both : (t : ℕ) (xs ys : List Copy) → NoneBefore t xs → NoneBefore t ys → NoneBefore t (xs ++ ys)
none_of_both t xs ys first second c i = ⊎_elim (λ j. first c j) (λ j. second c j) (in_either c xs ys i)

pub none_of_left : (t : ℕ) (c : Copy) (front back all : List Copy) → all ≡ front ++ c ∷ back → NoneBefore t all → NoneBefore t (front ++ back)
none_of_left t c front back all are none x i = none x (left_is c x front back all are i)

-- one that acknowledges more, or none does
pub some_above : (n : ℕ) (cs : List Copy) → OneHas (λ c. n < c.number) cs ⊎ ((c : Copy) → In c cs → c.number ≤ n)
some_above n [] = inr (λ c i. absurd i)
some_above n (x ∷ cs) = ⊎_elim
    (λ above. inl (record { copy = x; among = inl refl; has = above }))
    (λ below. ⊎_elim
    (λ (one : OneHas (λ c. n < c.number) cs). inl (record { copy = one.copy; among = inr one.among; has = one.has }))
    (λ none. inr (λ c i. ⊎_elim (λ e. subst (λ (y : Copy). y.number ≤ n) (sym e) below) (λ j. none c j) i))
    (some_above n cs))
    (cases_lt n x.number)

-- ---- numbers

-- one of them is taken out
pub without : (n : ℕ) (xs : List ℕ) → Mem n xs → (ys : List ℕ) × (length xs ≡ suc (length ys)) × ((p : ℕ) → Mem p xs → (p ≡ n) ⊎ Mem p ys)
without n [] i = absurd i
without n (x ∷ xs) (inl e) = (xs, refl, λ p i. ⊎_elim (λ same. inl (same ∙ sym e)) (λ j. inr j) i)
without n (x ∷ xs) (inr i) =
    let rest = without n xs i in
    (x ∷ rest.0, omega (arith, rest.1), λ p j. ⊎_elim (λ same. inr (inl same)) (λ l. ⊎_elim (λ here. inl here) (λ there. inr (inr there)) (rest.2 p l)) j)

pub some_length : (n : ℕ) (xs : List ℕ) → Mem n xs → 1 ≤ length xs
some_length n [] i = absurd i
some_length n (x ∷ xs) i = omega arith

-- ---- timers

pub if_some_map : (P Q : ℕ → Type 0) (o : Option ℕ) → ((t : ℕ) → P t → Q t) → IfSome o P → IfSome o Q
if_some_map P Q None f h = tt
if_some_map P Q (Some t) f h = f t h

pub if_some_both : (P Q R : ℕ → Type 0) (o : Option ℕ) → ((t : ℕ) → P t → Q t → R t) → IfSome o P → IfSome o Q → IfSome o R
if_some_both P Q R None f g h = tt
if_some_both P Q R (Some t) f g h = f t g h

pub at_some : (P : ℕ → Type 0) (o : Option ℕ) (t : ℕ) → o ≡ Some t → IfSome o P → P t
at_some P o t is h = subst (λ x. IfSome x P) is h
