-- Things put one after the other.
--
-- What a silent duty needs room for is held before: each store's value has how much is ready, and the view of what is
-- around it forgets that.
use Rattle.path_core.proofs.Words.{◌≡◌, refl, ap, List, [], ◌∷◌, ◌++◌, Heard}

pub append-assoc : (xs ys zs : List Heard) → (xs ++ ys) ++ zs ≡ xs ++ (ys ++ zs)
append-assoc [] ys zs = refl
append-assoc (x ∷ xs) ys zs = ap (λ rest. x ∷ rest) (append-assoc xs ys zs)

pub append-nil : (xs : List Heard) → xs ++ [] ≡ xs
append-nil [] = refl
append-nil (x ∷ xs) = ap (λ rest. x ∷ rest) (append-nil xs)
