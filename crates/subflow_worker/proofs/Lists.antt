-- The last of a list, and a list behind the slice that lent it.
use Rattle.std.proofs.Common.{◌≡◌, refl, sym, ◌∙◌, ap, subst, ℕ, List, [], ◌∷◌, ◌++◌, length, take, drop, Some, IfSome}
use Rattle.std.proofs.Math.Seq.{take-append_seam}
use Rattle.std.specs.List.{slice_get}

module _ {X : Type 0} where
  -- the last item stands at the place of the length
  pub last_there : (xs : List X) (x : X) → slice_get (xs ++ x ∷ []) (length xs) ≡ Some x
  last_there [] x = refl
  last_there (y ∷ xs) x = last_there xs x

  -- what holds of the item that was put at the end holds of what stands there
  pub at_last : (xs ys : List X) (x : X) (n : ℕ) (P : X → Type 0) → ys ≡ xs ++ x ∷ [] → n ≡ length xs → P x → IfSome (slice_get ys n) P
  at_last xs ys x n P is at holds =
      subst (λ zs. IfSome (slice_get zs n) P) (sym is) (subst (λ k. IfSome (slice_get (xs ++ x ∷ []) k) P) (sym at) (subst (λ o. IfSome o P) (sym (last_there xs x)) holds))

  pub from_last : (xs ys : List X) (x : X) (n : ℕ) (P : X → Type 0) → ys ≡ xs ++ x ∷ [] → n ≡ length xs → IfSome (slice_get ys n) P → P x
  from_last xs ys x n P is at holds =
      subst (λ o. IfSome o P) (last_there xs x) (subst (λ k. IfSome (slice_get (xs ++ x ∷ []) k) P) at (subst (λ zs. IfSome (slice_get zs n) P) is holds))

-- what a slice that lends a whole vector leaves in it
pub written_back : {X : Type 0} (P : List X → Type 0) (n : ℕ) (new old : List X) → n ≡ length new → P new → P (take n (new ++ drop (length new) old))
written_back P n new old is h =
    subst P (sym (ap (λ k. take k (new ++ drop (length new) old)) is ∙ take-append_seam new (drop (length new) old))) h
