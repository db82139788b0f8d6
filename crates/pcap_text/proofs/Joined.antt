-- Parts that were put one behind the other.
use Rattle.std.proofs.Common.{◌≡◌, ◌∙◌, ap, List, ℕ, ◌++◌, append_assoc}

-- a part is put behind what stands
pub put : {a x given before after : List ℕ} → before ≡ a → after ≡ before ++ given → given ≡ x → after ≡ a ++ x
put {a} {x} {given} was puts is = puts ∙ ap (λ (t : List ℕ). t ++ given) was ∙ ap (λ (t : List ℕ). a ++ t) is

-- three parts behind one another are the first with the two others behind it
pub three : {last : List ℕ} (a x y z : List ℕ) → last ≡ a ++ x ++ y ++ z → last ≡ a ++ (x ++ (y ++ z))
three a x y z is = is ∙ append_assoc (a ++ x) y z ∙ append_assoc a x (y ++ z)

-- four parts behind a text, grouped from the right
pub four : {last : List ℕ} (a x y z w : List ℕ) → last ≡ a ++ x ++ y ++ z ++ w → last ≡ a ++ (x ++ (y ++ (z ++ w)))
four a x y z w is = is ∙ append_assoc (a ++ x ++ y) z w ∙ append_assoc (a ++ x) y (z ++ w) ∙ append_assoc a x (y ++ (z ++ w))
