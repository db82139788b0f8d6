-- Octets of a stream, one piece behind the other.
use Rattle.std.proofs.Common.{◌≡◌, ap, ◌∙◌, sym, subst, ℕ, ◌+◌, ◌-◌, ◌<◌, ◌≤◌, Option, Some, option_map, List, ◌++◌, length, length-append, get_or, arith, ◌⊎◌, inl, inr}
use Rattle.std.proofs.lemmas.Bool.{cases_lt}
use Rattle.std.proofs.lemmas.List.{get_or_append_left, get_or-append-add}
use Rattle.seen_octets.specs.declared.octet.Octet.{Octet}
use Rattle.seen_octets.specs.Octets.{IsPiece}

pub piece_grows : (octet : ℕ → Option Octet) (at : ℕ) (first second all : List ℕ) → at ≡ length first → all ≡ first ++ second → IsPiece octet 0 first
    → IsPiece octet at second → IsPiece octet 0 all
piece_grows octet at first second all ends grown is more = subst (IsPiece octet 0) (sym grown) (λ i within. by i within (cases_lt i (length first)))
  where
    by : (i : ℕ) → i < length (first ++ second) → (i < length first) ⊎ (length first ≤ i)
        → option_map (λ o. o.octet) (octet (0 + i)) ≡ Some (get_or (first ++ second) i 0)
    by i within (inl a) = is i a ∙ ap Some (sym (get_or_append_left first second 0 i a))
    by i within (inr a) =
        let here : 0 + i ≡ at + (i - length first) = omega (arith, a, ends) in
        let there : length first + (i - length first) ≡ i = omega (arith, a) in
        ap (λ (x : ℕ). option_map (λ o. o.octet) (octet x)) here
        ∙ more (i - length first) (omega (arith, a, within, length-append first second))
        ∙ ap Some (sym (get_or-append-add first second (i - length first) 0) ∙ ap (λ (x : ℕ). get_or (first ++ second) x 0) there)
