-- What holds either way of a choice holds of what is chosen.
use Rattle.std.proofs.Common.{Bool, true, false, if◌then◌else◌}

pub if_so : {X : Type 0} (P : X → Type 0) (b : Bool) (x y : X) → P x → P y → P (if b then x else y)
if_so P true x y one other = one
if_so P false x y one other = other
