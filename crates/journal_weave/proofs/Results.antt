-- What a result tells.
use Rattle.std.proofs.Common.{◌≡◌}
use Rattle.std.specs.Prelude.{Result, Ok, Err, IfErr, OnOk}
use Rattle.stamped_book.specs.declared.stamped.Refusal.{Refusal}
use Rattle.stamped_book.specs.declared.stamped.Refusal.TheVariants.{Memory, Stamps}

-- a result that is known
pub when_ok : {T E P : Type 0} (r : Result T E) (x : T) → r ≡ Ok x → OnOk r P → P
when_ok (Ok y) x is h = h
when_ok (Err e) x is h = cc

-- what holds anyway
pub at_ok : {T E P : Type 0} (r : Result T E) → P → OnOk r P
at_ok (Ok x) h = h
at_ok (Err e) h = tt

-- want of memory alone
pub never_stamps : {T P : Type 0} (r : Result T Refusal) → r ≡ Err Stamps → IfErr r (λ refusal. refusal ≡ Memory) → P
never_stamps (Ok x) is h = cc
never_stamps (Err refusal) is h = cc

-- of which error it is
pub same_error : {T E : Type 0} (r : Result T E) (d e : E) → r ≡ Err d → r ≡ Err e → d ≡ e
same_error r d e is was = cc
