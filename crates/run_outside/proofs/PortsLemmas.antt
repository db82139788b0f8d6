-- What ports hold over several puts.
use Rattle.std.proofs.Common.{◌≡◌, refl, sym, ◌∙◌, ap, ℕ, List, [], ◌++◌, take, drop, length, Option, Some, None, append_assoc, subst, inl, inr, Result, Ok, Err, OnErr, OnOk, IfOk, IfErr, ◌<◌, ◌≤◌, ◌⊎◌, arith}
use Rattle.std.proofs.Math.Seq.{take-length}
use Rattle.std.proofs.lemmas.List.{append-nil, take-append-drop}
use Rattle.octet_text.specs.Prefix.{IsPrefix}
use Rattle.outside_kit.specs.declared.port.Port.{Port}
use Rattle.outside_kit.specs.Outside.{HasRisen, HoldsAfter, HoldsPrefix}
use Rattle.std.proofs.lemmas.Bool.{cases_lt}
use Rattle.run_outside.specs.declared.status.Status.{Status}
use Rattle.run_outside.specs.declared.status.Status.TheVariants.{Put, Memory, Log}
use Rattle.run_outside.specs.Ports.{NeverFall, IsPortsFault, HoldsMore, HoldsWithin, IsBetween}

-- ---- prefixes

pub IsPrefix-refl : (xs : List ℕ) → IsPrefix xs xs
IsPrefix-refl xs = record { rest = []; whole_is = sym (append-nil xs) }

pub IsPrefix-append : (xs more : List ℕ) → IsPrefix xs (xs ++ more)
IsPrefix-append xs more = record { rest = more; whole_is = refl }

-- a text before a prefix and its whole leaves it a prefix
pub IsPrefix-behind : (prefix xs ys : List ℕ) → IsPrefix xs ys → IsPrefix (prefix ++ xs) (prefix ++ ys)
IsPrefix-behind prefix xs ys h = record { rest = h.rest; whole_is = ap (λ zs. prefix ++ zs) h.whole_is ∙ sym (append_assoc prefix xs h.rest) }

-- a part of a text, behind a prefix
pub taken_part : (prefix text : List ℕ) (count : ℕ) → IsPrefix (prefix ++ take count text) (prefix ++ text)
taken_part prefix text count = record {
  rest = drop count text;
  whole_is = ap (λ zs. prefix ++ zs) (sym (take-append-drop count text)) ∙ sym (append_assoc prefix (take count text) (drop count text));
}

-- ---- one put

-- a text that was put whole
pub whole_more : (a b : Option (List ℕ)) (prefix text high : List ℕ) → HoldsAfter a b (λ held. held ++ text) → high ≡ prefix ++ text
    → HoldsMore a b prefix (λ all. all ≡ high)
whole_more None b prefix text high h is = tt
whole_more (Some held) b prefix text high h is = (text, (h, sym is))

-- a part of it
pub part_more : (a b : Option (List ℕ)) (prefix text high : List ℕ) → HoldsPrefix a b text → high ≡ prefix ++ text
    → HoldsMore a b prefix (IsBetween prefix high)
part_more None b prefix text high h is = tt
part_more (Some held) b prefix text high h is = (
  take h.0 text,
  (
    h.1,
    record {
      least = IsPrefix-append prefix (take h.0 text);
      most = subst (IsPrefix (prefix ++ take h.0 text)) (sym is) (taken_part prefix text h.0);
    },
  ),
)

-- nothing
pub nothing_more : (a b : Option (List ℕ)) (prefix : List ℕ) (P : List ℕ → Type 0) → b ≡ a → P prefix → HoldsMore a b prefix P
nothing_more None b prefix P same p = tt
nothing_more (Some held) b prefix P same p = ([], (same ∙ ap Some (sym (append-nil held)), subst P (sym (append-nil prefix)) p))

-- ---- one after the other

-- what holds of more is weaker
pub more_weaker : (a b : Option (List ℕ)) (prefix : List ℕ) (P Q : List ℕ → Type 0) → ((text : List ℕ) → P text → Q text) → HoldsMore a b prefix P → HoldsMore a b prefix Q
more_weaker None b prefix P Q f h = tt
more_weaker (Some held) b prefix P Q f h = (h.0, (h.1.0, f (prefix ++ h.0) h.1.1))

-- the port grew with a text, and goes on growing with it
pub more_then : (a b c : Option (List ℕ)) (prefix middle : List ℕ) (P : List ℕ → Type 0) → HoldsMore a b prefix (λ all. all ≡ middle) → HoldsMore b c middle P
    → HoldsMore a c prefix P
more_then None b c prefix middle P h k = tt
more_then (Some held) b c prefix middle P h k =
    let next : (more : List ℕ) × ((c ≡ Some ((held ++ h.0) ++ more)) × P (middle ++ more)) = subst (λ o. HoldsMore o c middle P) h.1.0 k in (
      h.0 ++ next.0,
      (
        next.1.0 ∙ ap Some (append_assoc held h.0 next.0),
        subst P (ap (λ xs. xs ++ next.0) (sym h.1.1) ∙ append_assoc prefix h.0 next.0) next.1.1,
      ),
    )

-- a text was put, and more behind it
pub more_behind : (a b c : Option (List ℕ)) (first : List ℕ) (Q R : List ℕ → Type 0) → HoldsMore a b [] (λ all. all ≡ first) → HoldsMore b c [] Q
    → ((text : List ℕ) → Q text → R (first ++ text)) → HoldsMore a c [] R
more_behind None b c first Q R h k f = tt
more_behind (Some held) b c first Q R h k f =
    let next : (more : List ℕ) × ((c ≡ Some ((held ++ h.0) ++ more)) × Q more) = subst (λ o. HoldsMore o c [] Q) h.1.0 k in (
      h.0 ++ next.0,
      (
        next.1.0 ∙ ap Some (append_assoc held h.0 next.0),
        subst R (ap (λ xs. xs ++ next.0) (sym h.1.1)) (f next.0 next.1.1),
      ),
    )

-- all that grew is all that a port has that held nothing
pub all_held : (a b c : Option (List ℕ)) (text : List ℕ) → HoldsAfter a b (λ _. []) → HoldsMore b c [] (λ all. all ≡ text) → HoldsAfter a c (λ _. text)
all_held None b c text h k = tt
all_held (Some held) b c text h k =
    let next : (more : List ℕ) × ((c ≡ Some ([] ++ more)) × (more ≡ text)) = subst (λ o. HoldsMore o c [] (λ all. all ≡ text)) h k in
    next.1.0 ∙ ap Some next.1.1

-- or a part
pub part_held : (unbegun : Type 0) (a b c : Option (List ℕ)) (low high : List ℕ) → HoldsAfter a b (λ _. []) → HoldsMore b c [] (IsBetween low high)
    → HoldsWithin unbegun a c low high
part_held unbegun None b c low high h k = tt
part_held unbegun (Some held) b c low high h k =
    let next : (more : List ℕ) × ((c ≡ Some ([] ++ more)) × IsBetween low high more) = subst (λ o. HoldsMore o c [] (IsBetween low high)) h k in
    inr next

-- the text put behind what was held
pub all_behind : (a b : Option (List ℕ)) (text : List ℕ) → HoldsMore a b [] (λ all. all ≡ text) → HoldsAfter a b (λ held. held ++ text)
all_behind None b text h = tt
all_behind (Some held) b text h = h.1.0 ∙ ap (λ more. Some (held ++ more)) h.1.1

-- what holds at all holds of an error
pub OnErr-holds : {T E : Type 0} (r : Result T E) (P : Type 0) → P → OnErr r P
OnErr-holds (Ok x) P h = tt
OnErr-holds (Err e) P h = h

pub OnOk-holds : {T E : Type 0} (r : Result T E) (P : Type 0) → P → OnOk r P
OnOk-holds (Ok x) P h = h
OnOk-holds (Err e) P h = tt

pub OnOk-both : {T E P Q R : Type 0} (r : Result T E) → (P → Q → R) → OnOk r P → OnOk r Q → OnOk r R
OnOk-both (Ok x) f p q = f p q
OnOk-both (Err e) f p q = tt

-- a text that was put whole is a part of itself
pub whole_part : (a b c : Option (List ℕ)) (text : List ℕ) → HoldsAfter a b (λ held. held ++ text) → c ≡ b → HoldsPrefix a c text
whole_part None b c text h same = tt
whole_part (Some held) b c text h same = (length text, same ∙ h ∙ ap (λ xs. Some (held ++ xs)) (sym (take-length text)))

pub after_from : (a b c : Option (List ℕ)) (f : List ℕ → List ℕ) → b ≡ a → HoldsAfter b c f → HoldsAfter a c f
after_from a b c f same h = subst (λ o. HoldsAfter o c f) same h

-- ---- faults

pub IfErr-map : {T E : Type 0} {P Q : E → Type 0} (r : Result T E) → ((e : E) → P e → Q e) → IfErr r P → IfErr r Q
IfErr-map (Ok x) f p = tt
IfErr-map (Err e) f p = f e p

pub IfErr-both : {T E S : Type 0} {P Q : E → Type 0} (r : Result T E) → ((e : E) → P e → S → Q e) → IfErr r P → OnErr r S → IfErr r Q
IfErr-both (Ok x) f p s = tt
IfErr-both (Err e) f p s = f e p s

pub IfOk-and : {T E S R : Type 0} {P Q : T → Type 0} (r : Result T E) → ((x : T) → P x → S → R → Q x) → IfOk r P → OnOk r S → OnOk r R → IfOk r Q
IfOk-and (Ok x) f p s t = f x p s t
IfOk-and (Err e) f p s t = tt

pub IfErr-three : {T E S : Type 0} {P Q R : E → Type 0} (r : Result T E) → ((e : E) → P e → Q e → S → R e) → IfErr r P → IfErr r Q → OnErr r S → IfErr r R
IfErr-three (Ok x) f p q s = tt
IfErr-three (Err e) f p q s = f e p q s

-- a count that has risen later has risen
pub risen_later : (old middle new : ℕ) → old ≤ middle → HasRisen middle new → HasRisen old new
risen_later old middle new few (inl less) = inl (omega (arith, few, less))
risen_later old middle new few (inr most) = elim (cases_lt old new)
    [ inl less ↦ inl less | inr least ↦ let a = most.0 in let b = most.1 in inr (omega (arith, few, least, a, b), b) ]

pub fault_after : (old middle new : Port → ℕ) (status : Status) → NeverFall old middle → IsPortsFault middle new status → IsPortsFault old new status
fault_after old middle new (Put p) few fault = risen_later (old p) (middle p) (new p) (few p) fault
fault_after old middle new Memory few fault = tt
fault_after old middle new _ few fault = absurd fault

-- ---- ports are distinct

pub b_isnt_log : Port.ReadByB ≡ Port.Log → ⊥
b_isnt_log e = cc (e)

pub a_isnt_log : Port.ReadByA ≡ Port.Log → ⊥
a_isnt_log e = cc (e)

-- a call of one port lets no count fall
pub never_falls : (p : Port) (old new : Port → ℕ) → old p ≤ new p → ((other : Port) → (other ≡ p → ⊥) → new other ≡ old other) → NeverFall old new
never_falls Port.ReadByA old new h k Port.ReadByA = h
never_falls Port.ReadByA old new h k Port.ReadByB = let same = k Port.ReadByB (λ e. cc (e)) in omega (arith, same)
never_falls Port.ReadByA old new h k Port.Log = let same = k Port.Log (λ e. cc (e)) in omega (arith, same)
never_falls Port.ReadByB old new h k Port.ReadByA = let same = k Port.ReadByA (λ e. cc (e)) in omega (arith, same)
never_falls Port.ReadByB old new h k Port.ReadByB = h
never_falls Port.ReadByB old new h k Port.Log = let same = k Port.Log (λ e. cc (e)) in omega (arith, same)
never_falls Port.Log old new h k Port.ReadByA = let same = k Port.ReadByA (λ e. cc (e)) in omega (arith, same)
never_falls Port.Log old new h k Port.ReadByB = let same = k Port.ReadByB (λ e. cc (e)) in omega (arith, same)
never_falls Port.Log old new h k Port.Log = h
