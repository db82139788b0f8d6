-- A word of digits is text, and `parse` reads it.
use Rattle.run_log.proofs.Words.{◌≡◌, ℕ, ◌^◌, ◌<◌, true, List, length, Result, Ok, refl, Err, nat_lt, MatchResult, IsOk, list_all, and_parts, ltb-true}
use Rattle.run_log.proofs.Words.{IsAscii-from_digits, IsUtf8, digits_value, ParsesUnsigned, is_ascii_digit, AreDigits, digits, is_number}
use Rattle.std.specs.Borrow.{Bor}
use Rattle.std.specs.Option.{SomeIff}
use Rattle.std.specs.Result.{OkIff, result_ok}
use Rattle.std.proofs.lemmas.Str.{IsUtf8-from_ascii}
use Rattle.std.proofs.lemmas.Str.Parse.{parse_digits}

-- what a number is
pub number_parts : (word : List ℕ) → is_number word ≡ true → (0 < length word) × AreDigits word
number_parts word h =
    let parts = and_parts (nat_lt 0 (length word)) (list_all is_ascii_digit word) h in
    (ltb-true 0 (length word) parts.0, parts.1)

-- digits are text, so `from_utf8` gives them
pub text_of_number : {E : Type 0} (Q : E → Type 0) (word : List ℕ) (r : Result (Bor (List ℕ)) E) → is_number word ≡ true
    → MatchResult r (λ s. (s.now ≡ word) × IsUtf8 word) (λ e. (IsUtf8 word → ⊥) × Q e) → IsOk r
text_of_number Q word (Ok s) h m = refl
text_of_number Q word (Err e) h m =
    absurd (m.0 (IsUtf8-from_ascii word (IsAscii-from_digits word (digits.to word (number_parts word h).1))))

some_iff : {E : Type 0} (P Q : Type 0) (v : ℕ) (r : Result ℕ E) → P → OkIff r (P × Q) v → SomeIff (result_ok r) Q v
some_iff P Q v (Ok x) p h = (h.0.1, h.1)
some_iff P Q v (Err e) p h = λ q. h (p, q)

-- what `parse` gives of them
pub parsed : {E : Type 0} (word : List ℕ) (r : Result ℕ E) → is_number word ≡ true → ParsesUnsigned 8 10 word r
    → SomeIff (result_ok r) (digits_value 10 word < 2 ^ 8) (digits_value 10 word)
parsed word r h p =
    let parts = number_parts word h in
    some_iff _ _ _ r parts.0 (parse_digits digits 8 word r p parts.1)
