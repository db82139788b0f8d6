-- A list without its last item.
use Rattle.std.proofs.Common.{◌≡◌, refl, sym, ◌∙◌, List, [], ◌∷◌, ◌++◌, Option, Some, None, IfSome, IsNone}

module _ {X : Type 0} where
  -- lists that are the same with a last item are the same without it
  same_front : (xs ys : List X) (a b : X) → xs ++ a ∷ [] ≡ ys ++ b ∷ [] → xs ≡ ys
  same_front [] [] a b e = refl
  same_front [] (y ∷ []) a b e = cc
  same_front [] (y ∷ z ∷ ys) a b e = cc
  same_front (x ∷ []) [] a b e = cc
  same_front (x ∷ z ∷ xs) [] a b e = cc
  same_front (x ∷ xs) (y ∷ ys) a b e = let rest = same_front xs ys a b cc in cc

  -- a list that had a last item more, without it
  pub popped : (r : Option X) (old new xs : List X) (x : X) → IfSome r (λ y. old ≡ new ++ y ∷ []) → (IsNone r → old ≡ []) → old ≡ xs ++ x ∷ [] → new ≡ xs
  popped None old new xs x some none is = absurd ((elim xs as (λ xs. [] ≡ xs ++ x ∷ [] → ⊥) [ [] ↦ λ e. cc | z ∷ xs ↦ λ e. cc ]) (sym (none refl) ∙ is))
  popped (Some y) old new xs x some none is = same_front new xs y x (sym some ∙ is)
