-- The words that name a list of connections.
use Rattle.std.specs.Prelude.{ℕ, nat_lt, if◌then◌else◌, codes, length, List, [], ◌∷◌, Option, Some, None, option_and_then}
use Rattle.std.specs.Str.{bytes_eq}
use Rattle.run_words.specs.Numbers.{number_within}
use Rattle.connection_table.specs.declared.list_words.ListWords.{ListWords}

-- the name of the list, and the most rounds
pub record NamedList : Type 0 where
  pub list : List ℕ
  pub rounds : ℕ

-- words that the code lends, the name as a list of octets
abbrev pub as_words : ListWords → NamedList
as_words words = record { list = words.list.now; rounds = words.rounds }

-- a name isn't empty
abbrev pub named : List ℕ → ℕ → Option NamedList
named list rounds = if nat_lt 0 (length list) then Some (record { list = list; rounds = rounds }) else None

-- the most rounds: 1 to 1,024
abbrev pub rounds_in : List ℕ → List ℕ → Option ℕ
rounds_in option number = if bytes_eq option (codes "--rounds") then number_within 1 1024 number else None

-- a list alone has 1,024
abbrev pub words_in : List (List ℕ) → Option NamedList
words_in (list ∷ []) = named list 1024
words_in (list ∷ option ∷ number ∷ []) = option_and_then (named list) (rounds_in option number)
words_in _ = None
