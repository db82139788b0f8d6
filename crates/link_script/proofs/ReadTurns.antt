-- Reading line after line, as a loop does.
use Rattle.std.proofs.Common.{◌≡◌, ℕ, suc, ◌+◌, true, false, eqb, List, [], ◌∷◌, length, Result, Ok, Err, refl, sym, ap, ◌∙◌, add-one}
use Rattle.std.specs.List.{list_any}
use Rattle.std.proofs.lemmas.Bool.{eqb-true}
use Rattle.std.proofs.lemmas.List.{nil_from_length}
use Rattle.octet_text.specs.Lines.{text_lines}
use Rattle.link_script.specs.declared.fault.ScriptFault.{ScriptFault}
use Rattle.link_script.specs.declared.fault.ScriptKind.TheVariants.{Missing}
use Rattle.link_script.specs.declared.line.Line.{Line}
use Rattle.link_script.specs.Places.{is_end}
use Rattle.link_script.specs.Reading.{Fails, seen_after, read_on}

pub goes_on : (number : ℕ) (seen now : List Line) (rest line after : List ℕ) (whole : Result (List Line) ScriptFault)
    → text_lines rest ≡ line ∷ text_lines after → seen_after number seen line ≡ Ok now
    → read_on number seen (text_lines rest) ≡ whole → read_on (number + 1) now (text_lines after) ≡ whole
unfolding read_on
goes_on number seen now rest line after whole cut taken so_far =
    let one : read_on number seen (text_lines rest) ≡ read_on (suc number) now (text_lines after) = rw (cut, taken) refl in
    rw add-one (sym one ∙ so_far)

-- a line that is refused
pub stops : (fault : ScriptFault) (number : ℕ) (seen : List Line) (rest line after : List ℕ) (whole : Result (List Line) ScriptFault)
    → text_lines rest ≡ line ∷ text_lines after → Fails fault (seen_after number seen line)
    → read_on number seen (text_lines rest) ≡ whole → Fails fault whole
unfolding read_on
stops ScriptFault.Memory number seen rest line after whole cut refused so_far = tt
stops (ScriptFault.Line n k) number seen rest line after whole cut refused so_far =
    let one : read_on number seen (text_lines rest) ≡ Err (ScriptFault.Line n k) = rw (cut, refused) refl in
    sym so_far ∙ one

at_end : (number : ℕ) (seen : List Line) (rest : List ℕ) → eqb (length rest) 0 ≡ true → read_on number seen (text_lines rest) ≡ read_on number seen []
at_end number seen rest empty =
    ap (λ (rest : List ℕ). read_on number seen (text_lines rest)) (nil_from_length rest (eqb-true _ _ empty))

pub misses : (number : ℕ) (seen : List Line) (rest : List ℕ) (whole : Result (List Line) ScriptFault)
    → eqb (length rest) 0 ≡ true → list_any is_end seen ≡ false → read_on number seen (text_lines rest) ≡ whole → whole ≡ Err (ScriptFault.Line number Missing)
unfolding read_on
misses number seen rest whole empty goes so_far =
    let last : read_on number seen [] ≡ Err (ScriptFault.Line number Missing) = rw goes refl in
    sym so_far ∙ at_end number seen rest empty ∙ last

pub ends : (number : ℕ) (seen : List Line) (rest : List ℕ) (whole : Result (List Line) ScriptFault)
    → eqb (length rest) 0 ≡ true → list_any is_end seen ≡ true → read_on number seen (text_lines rest) ≡ whole → whole ≡ Ok seen
unfolding read_on
ends number seen rest whole empty ended so_far =
    let last : read_on number seen [] ≡ Ok seen = rw ended refl in
    sym so_far ∙ at_end number seen rest empty ∙ last
