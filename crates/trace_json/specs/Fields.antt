-- Values that several objects have.
use Rattle.std.specs.Prelude.{ℕ, false, Option, Some, None, List, ◌++◌, codes}
use Rattle.std.specs.Fmt.{digits}
use Rattle.std.specs.List.{fold}
use Rattle.sides.specs.declared.side.Side.{Side}
use Rattle.sides.specs.declared.side.Side.TheVariants.{A, B}
use Rattle.serde_json.specs.Data.{Data, Members, null, boolean, number, string, object, no_members, put, unsigned}
use Rattle.trace_json.specs.declared.fields.Member.{Member}
use Rattle.trace_json.specs.declared.fields.Member.TheVariants as told

-- a number in lower-case digits behind `0x`
abbrev pub hexadecimal : ℕ → List ℕ
hexadecimal n = codes "0x" ++ digits 16 false n

abbrev pub digits_or_null : Option ℕ → Data
digits_or_null None = null
digits_or_null (Some n) = string (hexadecimal n)

abbrev pub number_or_null : Option ℕ → Data
number_or_null None = null
number_or_null (Some n) = number (unsigned n)

abbrev pub side_letter : Side → List ℕ
side_letter A = codes "a"
side_letter B = codes "b"

-- ---- the members of an object, as far as they are no lists or objects

abbrev pub name_of : Member → List ℕ
name_of (told.Text name text) = name.now
name_of (told.Flag name on) = name.now
name_of (told.Number name n) = name.now
name_of (told.NumberOrNull name n) = name.now
name_of (told.Digits name n) = name.now
name_of (told.DigitsOrNull name n) = name.now

abbrev pub data_of : Member → Data
data_of (told.Text name text) = string text.now
data_of (told.Flag name on) = boolean on
data_of (told.Number name n) = number (unsigned n)
data_of (told.NumberOrNull name n) = number_or_null n
data_of (told.Digits name n) = string (hexadecimal n)
data_of (told.DigitsOrNull name n) = digits_or_null n

abbrev pub with_member : Members → Member → Members
with_member members m = put (name_of m) (data_of m) members

abbrev pub with_members : Members → List Member → Members
with_members members ms = fold with_member members ms

abbrev pub object_of : List Member → Data
object_of ms = object (with_members no_members ms)
