-- A line as it is written: its words, and how it is cut again.
use Rattle.std.proofs.Common.{◌≡◌, ℕ, ◌^◌, ◌<◌, Bool, true, false, ◌&&◌, not, leb, List, [], ◌∷◌, ◌++◌, length, map, Ok, refl, ap, ◌∙◌, append_assoc, arith}
use Rattle.std.specs.Prelude.{◌==◌, is_ok}
use Rattle.std.specs.Char.{is_ascii_digit}
use Rattle.std.specs.Fmt.{decimal}
use Rattle.std.specs.List.{list_all, AllByRecursion, flat_map}
use Rattle.std.proofs.lemmas.Bool.{and_parts, and_from, not-true, le-leb, lt-ltb, lt-leb}
use Rattle.std.proofs.lemmas.Bool.Decides.{nat_tests}
use Rattle.std.proofs.lemmas.Fmt.{digits_decimal, digits_value-decimal, decimal_nonempty, length-decimal-le}
use Rattle.std.proofs.lemmas.List.Folds.{list_all-append}
use Rattle.octet_text.specs.Lines.{text_lines}
use Rattle.link_script.specs.declared.limits.Limits.{Limits}
use Rattle.link_script.specs.Ranges.{most_digits, first_path_number}
use Rattle.link_script.specs.declared.line.Line.{Line}
use Rattle.link_script.specs.Numbers.{is_numeral, is_within, within}
use Rattle.link_script.specs.Scripts.{IsInRange}
use Rattle.link_script.specs.Words.{words_of}
use Rattle.link_script.specs.Writing.{spaced, line_words, line_text, ended}
use Rattle.link_script.proofs.Numerals.{digits}

-- an octet that neither ends a line nor parts two words
abbrev pub is_plain : ℕ → Bool
is_plain octet = not (octet == 32) && not (octet == 10)

abbrev pub IsPlain : List ℕ → Type 0
IsPlain word = list_all is_plain word ≡ true

abbrev pub ArePlain : List (List ℕ) → Type 0
ArePlain words = AllByRecursion IsPlain words

-- ---- numbers

plain_digit : (octet : ℕ) → is_ascii_digit octet ≡ true → is_plain octet ≡ true
plain_digit octet h = grind (arith, nat_tests)

plain_digits : (word : List ℕ) → list_all is_ascii_digit word ≡ true → IsPlain word
plain_digits [] h = refl
plain_digits (octet ∷ word) h =
    let parts = and_parts (is_ascii_digit octet) (list_all is_ascii_digit word) h in
    and_from _ _ (plain_digit octet parts.0) (plain_digits word parts.1)

pub plain_number : (n : ℕ) → n < 2 ^ 64 → IsPlain (decimal n)
plain_number n h = plain_digits (decimal n) (digits_decimal digits n h)

numeral_again : (n : ℕ) → n < 2 ^ 64 → is_numeral (decimal n) ≡ true
numeral_again n h =
    and_from _ _ (and_from _ _ (lt-ltb 0 (length (decimal n)) (decimal_nonempty n h)) (le-leb (length (decimal n)) most_digits (length-decimal-le 20 n (omega arith) (omega arith) h))) (digits_decimal digits n h)

-- a number that is written is read again
pub number_again : (limits : Limits) (n : ℕ) → IsInRange limits n → n < 2 ^ 64 → within limits (decimal n) ≡ Ok n
unfolding within
number_again limits n h small =
    let inside : is_within limits n ≡ true = and_from _ _ (le-leb limits.least n h.least) (le-leb n limits.most h.most) in
    rw (numeral_again n small, digits_value-decimal digits n small, inside) refl

pub later_path : (n : ℕ) → 0 < n → n < 2 ^ 64 → not (is_ok (within first_path_number (decimal n))) ≡ true
unfolding within
later_path n some small =
    let low : leb 0 n ≡ true = le-leb 0 n (omega arith) in
    let outside : leb n 0 ≡ false = lt-leb n 0 some in
    rw (numeral_again n small, digits_value-decimal digits n small, low, outside) refl

-- ---- lines

-- no octet ends a line
abbrev pub IsOneLine : List ℕ → Type 0
IsOneLine line = list_all (λ octet. not (octet == 10)) line ≡ true

one_line_word : (word : List ℕ) → IsPlain word → IsOneLine word
one_line_word [] h = refl
one_line_word (octet ∷ word) h =
    let parts = and_parts (is_plain octet) (list_all is_plain word) h in
    and_from _ _ (and_parts (not (octet == 32)) (not (octet == 10)) parts.0).1 (one_line_word word parts.1)

pub one_line : (words : List (List ℕ)) → ArePlain words → IsOneLine (spaced words)
one_line [] h = refl
one_line (word ∷ []) h = one_line_word word h.0
one_line (word ∷ next ∷ words) h =
    list_all-append (λ octet. not (octet == 10)) word (32 ∷ spaced (next ∷ words)) ∙ and_from _ _ (one_line_word word h.0) (one_line (next ∷ words) h.1)

cut_line : (line rest : List ℕ) → IsOneLine line → text_lines (line ++ 10 ∷ rest) ≡ line ∷ text_lines rest
cut_line [] rest h = refl
cut_line (octet ∷ line) rest h =
    let parts = and_parts (not (octet == 10)) (list_all (λ octet. not (octet == 10)) line) h in
    rw (not-true _ parts.0, cut_line line rest parts.1) refl

pub lines_again : (lines : List Line) → AllByRecursion (λ line. ArePlain (line_words line)) lines → text_lines (flat_map ended lines) ≡ map line_text lines
lines_again [] h = refl
lines_again (line ∷ lines) h =
    let apart : flat_map ended (line ∷ lines) ≡ line_text line ++ 10 ∷ flat_map ended lines = append_assoc (line_text line) (10 ∷ []) (flat_map ended lines) in
    ap text_lines apart ∙ cut_line (line_text line) (flat_map ended lines) (one_line (line_words line) h.0) ∙ ap (λ (more : List (List ℕ)). line_text line ∷ more) (lines_again lines h.1)

-- ---- words

last_word : (word : List ℕ) → IsPlain word → words_of word ≡ word ∷ []
last_word [] h = refl
last_word (octet ∷ word) h =
    let parts = and_parts (is_plain octet) (list_all is_plain word) h in
    rw (not-true _ (and_parts (not (octet == 32)) (not (octet == 10)) parts.0).0, last_word word parts.1) refl

cut_word : (word rest : List ℕ) → IsPlain word → words_of (word ++ 32 ∷ rest) ≡ word ∷ words_of rest
cut_word [] rest h = refl
cut_word (octet ∷ word) rest h =
    let parts = and_parts (is_plain octet) (list_all is_plain word) h in
    rw (not-true _ (and_parts (not (octet == 32)) (not (octet == 10)) parts.0).0, cut_word word rest parts.1) refl

pub words_again : (word : List ℕ) (words : List (List ℕ)) → ArePlain (word ∷ words) → words_of (spaced (word ∷ words)) ≡ word ∷ words
words_again word [] h = last_word word h.0
words_again word (next ∷ words) h =
    cut_word word (spaced (next ∷ words)) h.0 ∙ ap (λ (more : List (List ℕ)). word ∷ more) (words_again next words h.1)
