-- The words of a command line as what they are: options with their values, and names.
use Rattle.std.specs.Prelude.{ℕ, ◌==◌, Bool, false, List, [], ◌∷◌, ◌++◌, map, Option, Some, None, option_map, if◌then◌else◌, codes, find}
use Rattle.std.specs.List.{before_first, after_first}
use Rattle.std.specs.Str.{bytes_eq}

-- a word, in octets of UTF-8
abbrev pub Word : Type 0
Word = List ℕ

-- the options of the line form, each of which has a value
pub data Choice : Type 0 where
  mode_option : Choice
  rounds_option : Choice
  order_option : Choice
  number_option : Choice

-- the word behind `--`
abbrev pub label : Choice → Word
label mode_option = codes "mode"
label rounds_option = codes "rounds"
label order_option = codes "order"
label number_option = codes "number"

-- an option as it is written, `--rounds`
abbrev pub written : Choice → Word
written choice = codes "--" ++ label choice

-- the option that a word writes
abbrev pub choice_of : Word → Option Choice
choice_of word = find (λ choice. bytes_eq (written choice) word) (mode_option ∷ rounds_option ∷ order_option ∷ number_option ∷ [])

-- an option with its value, or a name
pub data Part : Type 0 where
  option : Choice → Word → Part
  name : Word → Part

-- the word begins with `-` and isn't `-` alone: before a word `--` it is no name, and no value that is a word of its own
abbrev pub is_dashed : Word → Bool
is_dashed (first ∷ second ∷ rest) = first == 45
is_dashed word = false

-- `=`
abbrev pub is_equals : ℕ → Bool
is_equals octet = octet == 61

-- a word that isn't an option alone: `--rounds=N`, or a name
abbrev pub part_in : Option Choice → Word → Option Part
part_in (Some choice) word = Some (option choice (after_first is_equals word))
part_in None word = if is_dashed word then None else Some (name word)

-- a word as a part, by what stands before its first `=`
abbrev pub part_of : Word → Option Part
part_of word = part_in (choice_of (before_first is_equals word)) word

-- the part, and those behind it
abbrev pub with_part : Option Part → Option (List Part) → Option (List Part)
with_part (Some part) rest = option_map (λ parts. part ∷ parts) rest
with_part None rest = None

-- what a word and those behind it say, by whether it is an option alone, whose value is the next word
abbrev pub parts_in : (Option Choice → Option (List Part)) → Option Choice → Word → Option (List Part)
parts_in behind (Some choice) word = behind (Some choice)
parts_in behind None word = with_part (part_of word) (behind None)

-- The words as parts, in their order, or None where a word has no place. `due` is the option, if there is one, whose
-- value comes next. Behind a word `--` each word is a name.
unfoldable pub parts_of : Option Choice → List Word → Option (List Part)
parts_of None [] = Some []
parts_of (Some choice) [] = None
parts_of None (word ∷ rest) = if bytes_eq word (codes "--") then Some (map name rest) else parts_in (λ due. parts_of due rest) (choice_of word) word
parts_of (Some choice) (word ∷ rest) = if is_dashed word then None else with_part (Some (option choice word)) (parts_of None rest)
