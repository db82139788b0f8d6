-- Numbers as a command line writes them.
use Rattle.std.specs.Prelude.{ℕ, Bool, ◌&&◌, List, length, Option, Some, None, nat_lt, nat_le, if◌then◌else◌}
use Rattle.std.specs.List.{list_all}
use Rattle.std.specs.Char.{is_ascii_digit}
use Rattle.std.specs.Str.Parse.{digits_value}

-- one to seven digits, leading zeros among them
abbrev pub is_numeral : List ℕ → Bool
is_numeral word = nat_lt 0 (length word) && nat_le (length word) 7 && list_all is_ascii_digit word

-- the number that a word writes, where it lies within these ends
unfoldable pub number_within : ℕ → ℕ → List ℕ → Option ℕ
number_within least most word =
    let n = digits_value 10 word in
    if is_numeral word && nat_le least n && nat_le n most then Some n else None
