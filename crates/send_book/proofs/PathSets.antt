-- Sets of paths, as truth values by path.
use Rattle.std.proofs.Common.{◌≡◌, refl, ◌∙◌, ap, ℕ, zero, suc, ◌<◌, Bool, true, false, List, [], ◌∷◌, length, set, arith}
use Rattle.std.proofs.Math.Bool.{beq}
use Rattle.std.specs.Cmp.Lexicographic.{pointwise, pointwise_decides}
use Rattle.send_book.specs.Tried.{contains, insert}

-- writing a truth value puts the path into the set
pub insert-set : (path : ℕ) (paths : List Bool) → path < length paths → set paths path true ≡ insert path paths
insert-set path [] within = absurd (omega (arith, within))
insert-set zero (first ∷ paths) within = refl
insert-set (suc path) (first ∷ paths) within = ap (λ rest. first ∷ rest) (insert-set path paths (omega (arith, within)))

pub insert-set_at : (place path : ℕ) (paths set_of : List Bool) → place ≡ path → paths ≡ set_of → place < length paths
    → set paths place true ≡ insert path set_of
insert-set_at place path paths set_of e f within = insert-set place paths within ∙ rw (e, f) refl

pub contains-insert : (path : ℕ) (paths : List Bool) → contains path (insert path paths) ≡ true
contains-insert zero [] = refl
contains-insert zero (first ∷ paths) = refl
contains-insert (suc path) [] = contains-insert path []
contains-insert (suc path) (first ∷ paths) = contains-insert path paths

-- what a set has, it has with one path more
pub contains-insert_more : (path other : ℕ) (paths : List Bool) → contains other paths ≡ true → contains other (insert path paths) ≡ true
contains-insert_more path other [] has = cc
contains-insert_more zero zero (first ∷ paths) has = refl
contains-insert_more zero (suc other) (first ∷ paths) has = has
contains-insert_more (suc path) zero (first ∷ paths) has = has
contains-insert_more (suc path) (suc other) (first ∷ paths) has = contains-insert_more path other paths has

-- `==` decides whether two sets are equal
bool_decides : (a b : Bool) → (beq a b ≡ true → a ≡ b) × (a ≡ b → beq a b ≡ true)
bool_decides true true = (λ _. refl, λ _. refl)
bool_decides true false = (λ e. cc, λ e. cc)
bool_decides false true = (λ e. cc, λ e. cc)
bool_decides false false = (λ _. refl, λ _. refl)

pub paths_decides : (a b : List Bool) → (pointwise beq a b ≡ true → a ≡ b) × (a ≡ b → pointwise beq a b ≡ true)
paths_decides = pointwise_decides bool_decides
