-- Reading line after line, as a loop does.
use Rattle.std.proofs.Common.{◌≡◌, ℕ, suc, ◌+◌, Bool, true, false, if◌then◌else◌, eqb, subst, ◌==◌, List, [], ◌∷◌, ◌++◌, length, map, Result, Ok, Err, refl, sym, ap, ◌∙◌, add-one}
use Rattle.std.specs.List.{onto_first}
use Rattle.std.proofs.lemmas.Bool.{eqb-true, false≢true}
use Rattle.std.proofs.lemmas.List.{map-append, nil_from_length}
use Rattle.octet_text.specs.Lines.{text_lines}
use Rattle.connection_table.specs.declared.list.Listed.{Listed}
use Rattle.connection_table.specs.declared.list.ListFault.{ListFault}
use Rattle.connection_table.specs.declared.list.ListFault.TheVariants as fault
use Rattle.connection_table.specs.Lists.{Names, IsReading, as_names, line_reading, lines_reading, list_reading, read_on}

-- a line that was read
pub goes_on : (number : ℕ) (seen : List Listed) (new : Listed) (rest line behind : List ℕ) (whole : Result (List Names) ℕ)
    → text_lines rest ≡ line ∷ text_lines behind → line_reading number line ≡ Ok (as_names new)
    → read_on number (map as_names seen) (text_lines rest) ≡ whole → read_on (number + 1) (map as_names (seen ++ new ∷ [])) (text_lines behind) ≡ whole
unfolding read_on
goes_on number seen new rest line behind whole cut taken so_far =
    let one : read_on number (map as_names seen) (text_lines rest) ≡ read_on (suc number) (map as_names seen ++ as_names new ∷ []) (text_lines behind) = rw (cut, taken) refl in
    rw (add-one, map-append as_names seen (new ∷ [])) (sym one ∙ so_far)

-- one that is out of form
pub stops : {X : Type 0} (view : X → List Names) (f : ListFault) (number : ℕ) (seen : List Names) (rest line behind : List ℕ) (whole : Result (List Names) ℕ)
    → text_lines rest ≡ line ∷ text_lines behind → IsReading as_names (Err f) (line_reading number line)
    → read_on number seen (text_lines rest) ≡ whole → IsReading view (Err f) whole
unfolding read_on
stops view fault.Memory number seen rest line behind whole cut refused so_far = tt
stops view (fault.Line n) number seen rest line behind whole cut refused so_far =
    let one : read_on number seen (text_lines rest) ≡ Err n = rw (cut, refused) refl in
    sym so_far ∙ one

-- behind the last one
pub ends : (number : ℕ) (seen : List Names) (rest : List ℕ) (whole : Result (List Names) ℕ)
    → eqb (length rest) 0 ≡ true → read_on number seen (text_lines rest) ≡ whole → whole ≡ Ok seen
unfolding read_on
ends number seen rest whole empty so_far =
    let last : read_on number seen (text_lines rest) ≡ Ok seen =
    ap (λ (rest : List ℕ). read_on number seen (text_lines rest)) (nil_from_length rest (eqb-true _ _ empty)) in
    sym so_far ∙ last

-- a list that isn't empty has a line
some_lines : (b : Bool) (octet : ℕ) (lines : List (List ℕ)) → lines_reading (if b then [] ∷ lines else onto_first octet lines) ≡ read_on 1 [] (if b then [] ∷ lines else onto_first octet lines)
some_lines true octet lines = refl
some_lines false octet [] = refl
some_lines false octet (line ∷ lines) = refl

some_list : (list : List ℕ) → eqb (length list) 0 ≡ false → list_reading list ≡ read_on 1 [] (text_lines list)
some_list [] some = absurd (false≢true (sym some))
some_list (octet ∷ octets) some = some_lines (octet == 10) octet (text_lines octets)

pub reads_some : {X : Type 0} (view : X → List Names) (r : Result X ListFault) (list : List ℕ) → eqb (length list) 0 ≡ false
    → IsReading view r (read_on 1 [] (text_lines list)) → IsReading view r (list_reading list)
reads_some view r list some reads = subst (λ read. IsReading view r read) (sym (some_list list some)) reads
