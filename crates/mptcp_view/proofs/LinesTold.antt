-- The segments that lines tell, line after line, as a loop does.
use Rattle.std.proofs.Common.{◌≡◌, refl, sym, ◌∙◌, ap, ℕ, zero, suc, ◌+◌, ◌<◌, ◌≤◌, Bool, true, false, eqb, if◌then◌else◌, List, [], ◌∷◌, length, drop, Option, Some, None, arith}
use Rattle.std.specs.List.{slice_get}
use Rattle.std.proofs.lemmas.Bool.{eqb-true}
use Rattle.std.proofs.lemmas.List.{nil_from_length}
use Rattle.octet_text.specs.Lines.{text_lines}
use Rattle.link_trace.specs.declared.sent.Sent.{Sent}
use Rattle.mptcp_view.specs.Telling.{is_sent, tells, untold_on}

heads : (trace : List Sent) (at : ℕ) → slice_get (drop at trace) 0 ≡ slice_get trace at
heads [] zero = refl
heads [] (suc at) = refl
heads (s ∷ trace) zero = refl
heads (s ∷ trace) (suc at) = heads trace at

tails : (trace : List Sent) (at : ℕ) → drop 1 (drop at trace) ≡ drop (suc at) trace
tails [] zero = refl
tails [] (suc at) = refl
tails (s ∷ trace) zero = refl
tails (s ∷ trace) (suc at) = tails trace at

module _ (number : ℕ) (line : List ℕ) (lines : List (List ℕ)) (left : List Sent) where
  abbrev told : Option ℕ
  told = if tells line (slice_get left 0) then untold_on (suc number) lines (drop 1 left) else Some number

  abbrev by_line : Bool → Option ℕ
  by_line b = if b then told else untold_on (suc number) lines left

  by_sent : is_sent line ≡ true → tells line (slice_get left 0) ≡ true → untold_on number (line ∷ lines) left ≡ untold_on (suc number) lines (drop 1 left)
  by_sent sent right = ap by_line sent ∙ ap (λ (b : Bool). if b then untold_on (suc number) lines (drop 1 left) else Some number) right

  by_other : is_sent line ≡ false → untold_on number (line ∷ lines) left ≡ untold_on (suc number) lines left
  by_other other = ap by_line other

  by_wrong : is_sent line ≡ true → tells line (slice_get left 0) ≡ false → untold_on number (line ∷ lines) left ≡ Some number
  by_wrong sent wrong = ap by_line sent ∙ ap (λ (b : Bool). if b then untold_on (suc number) lines (drop 1 left) else Some number) wrong

some_left : (number : ℕ) (trace : List Sent) (at : ℕ) → at < length trace → untold_on number [] (drop at trace) ≡ Some number
some_left number [] at below = absurd (omega (arith, below))
some_left number (s ∷ trace) zero below = refl
some_left number (s ∷ trace) (suc at) below = some_left number trace at (omega (arith, below))

none_left : (number : ℕ) (trace : List Sent) (at : ℕ) → length trace ≤ at → untold_on number [] (drop at trace) ≡ None
none_left number [] zero beyond = refl
none_left number [] (suc at) beyond = refl
none_left number (s ∷ trace) zero beyond = absurd (omega (arith, beyond))
none_left number (s ∷ trace) (suc at) beyond = none_left number trace at (omega (arith, beyond))

module _ (number at : ℕ) (trace : List Sent) (rest line behind : List ℕ) (whole : Option ℕ) (cut : text_lines rest ≡ line ∷ text_lines behind)
    (so_far : untold_on number (text_lines rest) (drop at trace) ≡ whole) where
  here : untold_on number (line ∷ text_lines behind) (drop at trace) ≡ whole
  here = ap (λ (lines : List (List ℕ)). untold_on number lines (drop at trace)) (sym cut) ∙ so_far

  pub goes_told : is_sent line ≡ true → tells line (slice_get trace at) ≡ true → untold_on (number + 1) (text_lines behind) (drop (at + 1) trace) ≡ whole
  goes_told sent right =
      let next : number + 1 ≡ suc number = omega arith in let more : at + 1 ≡ suc at = omega arith in
      ap (λ (n : ℕ). untold_on n (text_lines behind) (drop (at + 1) trace)) next
      ∙ ap (λ (n : ℕ). untold_on (suc number) (text_lines behind) (drop n trace)) more
      ∙ ap (untold_on (suc number) (text_lines behind)) (sym (tails trace at))
      ∙ sym (by_sent number line (text_lines behind) (drop at trace) sent (ap (tells line) (heads trace at) ∙ right)) ∙ here

  pub goes_on : is_sent line ≡ false → untold_on (number + 1) (text_lines behind) (drop at trace) ≡ whole
  goes_on other =
      let next : number + 1 ≡ suc number = omega arith in
      ap (λ (n : ℕ). untold_on n (text_lines behind) (drop at trace)) next
      ∙ sym (by_other number line (text_lines behind) (drop at trace) other) ∙ here

  pub stops : is_sent line ≡ true → tells line (slice_get trace at) ≡ false → Some number ≡ whole
  stops sent wrong = sym (by_wrong number line (text_lines behind) (drop at trace) sent (ap (tells line) (heads trace at) ∙ wrong)) ∙ here

module _ (number at : ℕ) (trace : List Sent) (rest : List ℕ) (whole : Option ℕ) (empty : eqb (length rest) 0 ≡ true)
    (so_far : untold_on number (text_lines rest) (drop at trace) ≡ whole) where
  at_end : untold_on number [] (drop at trace) ≡ whole
  at_end = ap (λ (r : List ℕ). untold_on number (text_lines r) (drop at trace)) (sym (nil_from_length rest (eqb-true _ _ empty))) ∙ so_far

  pub misses : at < length trace → Some number ≡ whole
  misses below = sym (some_left number trace at below) ∙ at_end

  pub ends : length trace ≤ at → None ≡ whole
  ends beyond = sym (none_left number trace at beyond) ∙ at_end
