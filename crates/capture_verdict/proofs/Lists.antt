-- What is told part by part, and what a list lends.
use Rattle.std.proofs.Common.{◌≡◌, refl, ap, ◌∙◌, sym, ℕ, zero, suc, Option, Some, None, option_map, List, [], ◌∷◌, ◌++◌, map, Bor}
use Rattle.std.specs.List.{slice_get}
use Rattle.std.specs.Option.{option_copied}
use Rattle.std.specs.Slice.{IsItemAt}
use Rattle.std.proofs.lemmas.List.{append-nil, append_assoc}
use Rattle.seen_connections.proofs.Items.{lent-is}

-- a part more, where `rest` is this part and what comes later
pub told_on : (text new all part rest later : List ℕ) → new ≡ text ++ part → rest ≡ part ++ later → text ++ rest ≡ all → new ++ later ≡ all
told_on text new all part rest later is more told =
    ap (λ (t : List ℕ). t ++ later) is ∙ append_assoc text part later ∙ ap (λ (w : List ℕ). text ++ w) (sym more) ∙ told

-- nothing is left
pub told_out : (text all rest : List ℕ) → rest ≡ [] → text ++ rest ≡ all → text ≡ all
told_out text all rest none told = sym (append-nil text) ∙ ap (λ (w : List ℕ). text ++ w) (sym none) ∙ told

get_map : {X Y : Type 0} → (f : X → Y) (xs : List X) (i : ℕ) → option_map f (slice_get xs i) ≡ slice_get (map f xs) i
get_map f [] i = refl
get_map f (x ∷ xs) zero = refl
get_map f (x ∷ xs) (suc i) = get_map f xs i

seen_copied : {X Y : Type 0} → (f : X → Y) (r : Option (Bor X)) → option_map (λ x. f x.now) r ≡ option_map f (option_copied r)
seen_copied f None = refl
seen_copied f (Some x) = refl

-- what is lent, as another value
pub lent_as : {X Y : Type 0} → (f : X → Y) (xs : List X) (i : ℕ) (r : Option (Bor X)) → IsItemAt xs i r
    → option_map (λ x. f x.now) r ≡ slice_get (map f xs) i
lent_as f xs i r is = seen_copied f r ∙ ap (option_map f) (lent-is xs i r is) ∙ get_map f xs i
