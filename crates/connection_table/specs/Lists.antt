-- What the lines of a list say: SCRIPT FILE_A FILE_B, with one space between.
use Rattle.std.specs.Prelude.{ℕ, suc, ◌≡◌, ◌&&◌, ◌==◌, Bool, nat_lt, nat_le, if◌then◌else◌, length, List, [], ◌∷◌, ◌++◌, Option, Some, None, Result, Ok, Err}
use Rattle.std.specs.List.{list_all, slice_split}
use Rattle.std.specs.Option.{ok_or}
use Rattle.octet_text.specs.Lines.{text_lines}
use Rattle.connection_table.specs.declared.list.Listed.{Listed}
use Rattle.connection_table.specs.declared.list.ListFault.{ListFault}
use Rattle.connection_table.specs.declared.list.ListFault.TheVariants.{Line, Memory}

-- the names of a connection's script and of both files
pub record Names : Type 0 where
  pub script : List ℕ
  pub file_a : List ℕ
  pub file_b : List ℕ

-- names that the code lends, as lists of octets
abbrev pub as_names : Listed → Names
as_names listed = record { script = listed.script.now; file_a = listed.file_a.now; file_b = listed.file_b.now }

-- ---- a line

-- a printable octet but the space
abbrev pub is_name_octet : ℕ → Bool
is_name_octet octet = nat_le 0x21 octet && nat_le octet 0x7E

-- a name has such octets, and isn't empty
abbrev pub is_name : List ℕ → Bool
is_name word = nat_lt 0 (length word) && list_all is_name_octet word

-- three names
abbrev pub names_by : List (List ℕ) → Option Names
names_by (script ∷ file_a ∷ file_b ∷ []) =
    if is_name script && is_name file_a && is_name file_b then Some (record { script = script; file_a = file_a; file_b = file_b }) else None
names_by _ = None

-- the three names of a line, the parts between its spaces
abbrev pub names_in : List ℕ → Option Names
names_in line = names_by (slice_split (λ octet. octet == 32) line)

-- ---- the lines

-- the line with this number, counted from 1: as many as 64 may be there
abbrev pub line_reading : ℕ → List ℕ → Result Names ℕ
line_reading number line = if nat_lt 64 number then Err number else ok_or (names_in line) number

-- what follows where that was read
abbrev pub then_read : Result Names ℕ → (Names → Result (List Names) ℕ) → Result (List Names) ℕ
then_read (Ok names) next = next names
then_read (Err number) next = Err number

-- all lines, behind those that were read so far, or the first that is out of form
unfoldable pub read_on : ℕ → List Names → List (List ℕ) → Result (List Names) ℕ
read_on number seen [] = Ok seen
read_on number seen (line ∷ lines) = then_read (line_reading number line) (λ names. read_on (suc number) (seen ++ names ∷ []) lines)

-- a list has a line at least
abbrev pub lines_reading : List (List ℕ) → Result (List Names) ℕ
lines_reading [] = Err 1
lines_reading (line ∷ lines) = read_on 1 [] (line ∷ lines)

-- what a list says: the names of each line, or the number of the first line that is out of form
abbrev pub list_reading : List ℕ → Result (List Names) ℕ
list_reading list = lines_reading (text_lines list)

-- ---- an answer

-- an answer is what was read, or the line that is out of form; for want of memory it says nothing
abbrev pub IsReading : {X Y : Type 0} → (X → Y) → Result X ListFault → Result Y ℕ → Type 0
IsReading view (Ok x) read = read ≡ Ok (view x)
IsReading view (Err (Line number)) read = read ≡ Err number
IsReading view (Err Memory) read = Unit {0}
