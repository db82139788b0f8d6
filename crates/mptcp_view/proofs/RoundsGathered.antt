-- The whole rounds of lines, line after line, as a loop does.
use Rattle.std.proofs.Common.{◌≡◌, sym, ◌∙◌, ap, ℕ, suc, ◌+◌, Bool, true, false, eqb, if◌then◌else◌, List, [], ◌∷◌, ◌++◌, length, append_assoc, append-nil, arith}
use Rattle.std.specs.Str.{bytes_eq}
use Rattle.std.proofs.lemmas.Bool.{eqb-true}
use Rattle.std.proofs.lemmas.List.{nil_from_length}
use Rattle.octet_text.specs.Lines.{text_lines}
use Rattle.mptcp_view.specs.Cutting.{round_words, rounds_in}

module _ (number : ℕ) (before line : List ℕ) (lines : List (List ℕ)) where
  abbrev with_line : List ℕ
  with_line = before ++ (line ++ 10 ∷ [])

  by_end : bytes_eq line (round_words number) ≡ true → rounds_in number before (line ∷ lines) ≡ with_line ++ rounds_in (suc number) [] lines
  by_end ends = ap (λ (b : Bool). if b then with_line ++ rounds_in (suc number) [] lines else rounds_in number with_line lines) ends

  by_other : bytes_eq line (round_words number) ≡ false → rounds_in number before (line ∷ lines) ≡ rounds_in number with_line lines
  by_other other = ap (λ (b : Bool). if b then with_line ++ rounds_in (suc number) [] lines else rounds_in number with_line lines) other

module _ (number : ℕ) (part before rest line behind whole : List ℕ) (cut : text_lines rest ≡ line ∷ text_lines behind)
    (so_far : part ++ rounds_in number before (text_lines rest) ≡ whole) where
  here : part ++ rounds_in number before (line ∷ text_lines behind) ≡ whole
  here = ap (λ (lines : List (List ℕ)). part ++ rounds_in number before lines) (sym cut) ∙ so_far

  pub ends_round : bytes_eq line (round_words number) ≡ true
      → (part ++ (before ++ (line ++ 10 ∷ []))) ++ rounds_in (number + 1) [] (text_lines behind) ≡ whole
  ends_round ends =
      let next : number + 1 ≡ suc number = omega arith in
      ap (λ (n : ℕ). (part ++ (before ++ (line ++ 10 ∷ []))) ++ rounds_in n [] (text_lines behind)) next
      ∙ append_assoc part (before ++ (line ++ 10 ∷ [])) (rounds_in (suc number) [] (text_lines behind))
      ∙ ap (λ (rounds : List ℕ). part ++ rounds) (sym (by_end number before line (text_lines behind) ends)) ∙ here

  pub goes_on : bytes_eq line (round_words number) ≡ false → part ++ rounds_in number (before ++ (line ++ 10 ∷ [])) (text_lines behind) ≡ whole
  goes_on other = ap (λ (rounds : List ℕ). part ++ rounds) (sym (by_other number before line (text_lines behind) other)) ∙ here

module _ (number : ℕ) (part before rest whole : List ℕ) (empty : eqb (length rest) 0 ≡ true)
    (so_far : part ++ rounds_in number before (text_lines rest) ≡ whole) where
  pub all_rounds : part ≡ whole
  all_rounds =
      sym (append-nil part) ∙ ap (λ (r : List ℕ). part ++ rounds_in number before (text_lines r)) (sym (nil_from_length rest (eqb-true _ _ empty))) ∙ so_far
