-- The first line that begins with `alter`, line after line, as a loop finds it.
use Rattle.std.proofs.Common.{◌≡◌, refl, sym, ◌∙◌, ap, subst, ℕ, ◌+◌, Bool, true, false, eqb, length, if◌then◌else◌, Option, Some, None, List, [], ◌∷◌}
use Rattle.std.specs.List.{position_from}
use Rattle.std.proofs.lemmas.Bool.{eqb-true}
use Rattle.std.proofs.lemmas.List.{nil_from_length}
use Rattle.octet_text.specs.Lines.{text_lines}
use Rattle.connection_table.specs.Scripts.{is_alter_line}

-- of the lines of a text, the first of which has this number
abbrev pub alter_from : ℕ → List ℕ → Option ℕ
alter_from number text = position_from is_alter_line number (text_lines text)

module _ (number : ℕ) (rest line behind : List ℕ) (whole : Option ℕ) (cut : text_lines rest ≡ line ∷ text_lines behind) (same : alter_from number rest ≡ whole) where
  whole_is : position_from is_alter_line number (line ∷ text_lines behind) ≡ whole
  whole_is = ap (position_from is_alter_line number) (sym cut) ∙ same

  -- no payload is altered by the line here: the search goes on behind it
  pub goes_on : is_alter_line line ≡ false → alter_from (number + 1) behind ≡ whole
  goes_on other =
      ap (λ b. if b then Some number else alter_from (number + 1) behind) (sym other) ∙ whole_is

  -- a payload is altered by the line here: its number is found
  pub stops : is_alter_line line ≡ true → whole ≡ Some number
  stops is = sym (ap (λ b. if b then Some number else alter_from (number + 1) behind) (sym is) ∙ whole_is)

-- behind the last one
pub ends : (number : ℕ) (rest : List ℕ) (whole : Option ℕ) → eqb (length rest) 0 ≡ true → alter_from number rest ≡ whole → whole ≡ None
ends number rest whole empty same = sym same ∙ ap (alter_from number) (nil_from_length rest (eqb-true _ _ empty))
