-- What is found among copies, and sides that are the same.
use Rattle.world_laws.proofs.Words.{◌≡◌, refl, sym, ◌∙◌, ap, subst, suc, Bool, true, false, cond, Some, List, [], ◌∷◌, find, false≢true, same_Some, Side, A, B}
use Rattle.world_laws.proofs.Words.{same_side, Every}

-- a copy that is found is one of them, and is what was looked for
pub find_every : {X : Type 0} (P : X → Type 0) (test : X → Bool) (xs : List X) (x : X) → Every P xs → find test xs ≡ Some x → P x × (test x ≡ true)
find_every P test [] x h is = cc
find_every P test (y ∷ xs) x h is = (elim (test y) as (λ b. test y ≡ b → cond b (Some y) (find test xs) ≡ Some x → (find test xs ≡ Some x → P x × (test x ≡ true)) → P x × (test x ≡ true)) [
  | true ↦ λ passes is rest. let same : y ≡ x = same_Some y x is in (subst P same (h.each 0 y refl), ap test (sym same) ∙ passes)
  | false ↦ λ passes is rest. rest is
]) refl is (λ later. find_every P test xs x (record { each = λ i z at. h.each (suc i) z at }) later)

pub one_side : (a b : Side) → same_side a b ≡ true → a ≡ b
one_side A A is = refl
one_side B B is = refl
one_side A B is = absurd (false≢true is)
one_side B A is = absurd (false≢true is)
