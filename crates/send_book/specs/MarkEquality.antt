-- `==` of marks answers true for equal marks alone.
use Rattle.std.specs.Prelude.{◌≡◌, Bool, true, false}
use Rattle.std.proofs.Common.{refl, ap}
use Rattle.std.specs.Cmp.Lexicographic.{pointwise_decides}
use Rattle.std.proofs.Math.Bool.{beq}
use Rattle.std.proofs.lemmas.Bool.{and_parts, eqb-true}
use Rattle.send_book.specs.declared.mark.ByteMark.{ByteMark}
use Rattle.send_book.specs.declared.mark.ByteMark.TheVariants.{Acked, Held, Free}
use Rattle.send_book.specs.contracts.mark.ByteMarkPartialEq.TheImpl.{eq-value}

bool_decides : (a b : Bool) → (beq a b ≡ true → a ≡ b) × (a ≡ b → beq a b ≡ true)
bool_decides true true = (λ _. refl, λ _. refl)
bool_decides true false = (λ e. cc, λ e. cc)
bool_decides false true = (λ e. cc, λ e. cc)
bool_decides false false = (λ _. refl, λ _. refl)

pub mark_exact : (a b : ByteMark) → eq-value.it a b ≡ true → a ≡ b
mark_exact Acked Acked e = refl
mark_exact Acked (Held path tried) e = cc
mark_exact Acked (Free tried) e = cc
mark_exact (Held path tried) Acked e = cc
mark_exact (Held path tried) (Held path' tried') e =
    let both = and_parts _ _ e in
    let paths : path ≡ path' = eqb-true path path' both.0 in
    let sets : tried ≡ tried' = (pointwise_decides bool_decides tried tried').0 both.1 in
    rw (paths, sets) refl
mark_exact (Held path tried) (Free tried') e = cc
mark_exact (Free tried) Acked e = cc
mark_exact (Free tried) (Held path' tried') e = cc
mark_exact (Free tried) (Free tried') e = ap Free ((pointwise_decides bool_decides tried tried').0 e)
