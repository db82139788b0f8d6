-- The first copy that passes a test, by its place.
use Rattle.std.proofs.Common.{◌≡◌, ◌∙◌, refl, sym, ap, ℕ, zero, suc, ◌<◌, ◌≤◌, Bool, true, false, cond, ltb, eqb, List, [], ◌∷◌, length, get_or, Option, Some, None, IsSome, IfSome, is_some, subst, arith}
use Rattle.std.proofs.lemmas.List.Folds.{find_at}
use Rattle.std.proofs.lemmas.List.Quantifiers.{position-Some}
use Rattle.std.proofs.lemmas.Option.{slice_get_past, none-some}
use Rattle.std.specs.Prelude.{find, position, ◌&&◌}
use Rattle.sides.specs.declared.side.Side.{Side}
use Rattle.sides.specs.declared.side.Side.TheVariants.{A, B}
use Rattle.link_script.specs.Places.{same_side}
use Rattle.link_model.specs.declared.flight.Flight.{Flight}
use Rattle.link_model.specs.Steps.{next_due, due_of, is_due}
use Rattle.std.specs.List.{position_or_len}

pub past_all : {X : Type 0} (p : X → Bool) (xs : List X) (b : Bool) → ltb (position_or_len p xs) (length xs) ≡ b → cond b (Some (position_or_len p xs)) None ≡ None
    → length xs ≤ position_or_len p xs
past_all p xs true e h = absurd (none-some (position_or_len p xs) (sym h))
past_all p xs false e h = grind (arith, e)

-- without a place there is none
pub found_nowhere : {X : Type 0} (p : X → Bool) (xs : List X) → position p xs ≡ None → find p xs ≡ None
found_nowhere p xs none = find_at p xs ∙ slice_get_past xs (position_or_len p xs) (past_all p xs _ refl none)

first_passing : {X : Type 0} (p : X → Bool) (xs : List X) (i : ℕ) (d : X) → i < length xs → p (get_or xs i d) ≡ true → ((k : ℕ) → k < i → p (get_or xs k d) ≡ false)
    → find p xs ≡ Some (get_or xs i d)
first_passing p [] i d within at before = absurd (omega (arith, within))
first_passing p (x ∷ xs) zero d within at before = ap (λ (b : Bool). cond b (Some x) (find p xs)) at
first_passing p (x ∷ xs) (suc i) d within at before =
    ap (λ (b : Bool). cond b (Some x) (find p xs)) (before 0 (omega arith))
    ∙ first_passing p xs i d (omega (arith, within)) at (λ k low. before (suc k) (omega (arith, low)))

-- at its place it is the one that is found
pub found_at : {X : Type 0} (p : X → Bool) (xs : List X) (i : ℕ) (d : X) → position p xs ≡ Some i → find p xs ≡ Some (get_or xs i d)
found_at p xs i d at = let first = position-Some p xs i d at in first_passing p xs i d first.0 first.1 first.2

pub none_is_not_some : {X : Type 0} (o : Option X) → o ≡ None → IsSome o → ⊥
none_is_not_some o none some = let no : false ≡ true = sym (ap is_some none) ∙ some in cc (no)

pub IfSome-is : {X : Type 0} (o : Option X) (x : X) (P : X → Type 0) → o ≡ Some x → P x → IfSome o P
IfSome-is {X = X} o x P is h = subst (λ (y : Option X). IfSome y P) (sym is) h

itself : (a b : ℕ) (s : Side) → (eqb a a && (same_side s s && eqb b b)) ≡ true
itself a b A = grind arith
itself a b B = grind arith

-- the earliest arrival is under way
pub next_is_under_way : {C : Type 0} (flights : List (Flight C)) → IfSome (next_due flights) (λ due. IsSome (find (is_due due) flights))
next_is_under_way [] = tt
next_is_under_way (f ∷ flights) = ap (λ (b : Bool). is_some (cond b (Some f) (find (is_due (due_of f)) flights))) (itself f.tick f.number f.to)
