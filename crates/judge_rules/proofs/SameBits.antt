-- Signed numbers of 64 bits are equal exactly where their bits are.
use Rattle.std.proofs.Common.{◌≡◌, sym, ◌∙◌, ap, ℤ, nat_eq, to_z, of_z, w64, SFits}
use Rattle.std.proofs.lemmas.Bool.{eqb-true}
use Rattle.std.proofs.lemmas.Bool.Decides.{Decides-eqb, Decides-int_eq}
use Rattle.std.proofs.lemmas.Int.{to_z-of_z}
use Rattle.std.specs.Bool.{one_answer}
use Rattle.std.specs.Ordering.{int_eq}

pub same_bits : (x y : ℤ) → SFits w64 x → SFits w64 y → nat_eq (of_z w64 x) (of_z w64 y) ≡ int_eq x y
same_bits x y fx fy =
    one_answer (nat_eq (of_z w64 x) (of_z w64 y)) (int_eq x y) (
      λ e. sym (to_z-of_z w64 x fx) ∙ ap (to_z w64) (eqb-true (of_z w64 x) (of_z w64 y) e) ∙ to_z-of_z w64 y fy,
      λ e. (Decides-eqb (of_z w64 x) (of_z w64 y)).1 (ap (of_z w64) e),
    )
    (Decides-int_eq x y)
