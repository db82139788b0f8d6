-- Numbers as a script writes them.
use Rattle.std.specs.Prelude.{ℕ, Bool, ◌&&◌, List, length, Result, Ok, Err, nat_lt, nat_le, if◌then◌else◌}
use Rattle.std.specs.List.{list_all}
use Rattle.std.specs.Char.{is_ascii_digit}
use Rattle.std.specs.Str.Parse.{digits_value}
use Rattle.link_script.specs.declared.limits.Limits.{Limits}
use Rattle.link_script.specs.Ranges.{most_digits}
use Rattle.link_script.specs.declared.fault.ScriptKind.{ScriptKind}
use Rattle.link_script.specs.declared.fault.ScriptKind.TheVariants.{Number}

-- one digit or more, and no more than there may be; leading zeros are digits like the others
abbrev pub is_numeral : List ℕ → Bool
is_numeral word = nat_lt 0 (length word) && nat_le (length word) most_digits && list_all is_ascii_digit word

abbrev pub is_within : Limits → ℕ → Bool
is_within limits n = nat_le limits.least n && nat_le n limits.most

-- the number that a word writes, within these limits
unfoldable pub within : Limits → List ℕ → Result ℕ ScriptKind
within limits word = if is_numeral word && is_within limits (digits_value 10 word) then Ok (digits_value 10 word) else Err Number
