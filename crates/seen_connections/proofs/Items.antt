-- What a list lends by its index.
use Rattle.std.proofs.Common.{◌≡◌, refl, sym, ℕ, Option, Some, None, List, length, Bor}
use Rattle.std.specs.List.{slice_get}
use Rattle.std.specs.Option.{option_copied}
use Rattle.std.specs.Slice.{IsItemAt}
use Rattle.std.proofs.lemmas.Option.{slice_get_past, slice_get_read}

-- what is lent is the element there
pub lent-is : {X : Type 0} (xs : List X) (i : ℕ) (r : Option (Bor X)) → IsItemAt xs i r → option_copied r ≡ slice_get xs i
lent-is xs i None e = sym (slice_get_past xs i e.3)
lent-is xs i (Some x) e = sym (slice_get_read xs (length xs) i x.now refl e.3.0 e.1)
