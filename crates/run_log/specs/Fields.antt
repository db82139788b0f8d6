-- A line by its fields, each of which ends at the first space.
use Rattle.std.specs.Prelude.{ℕ, ◌+◌, Bool, false, ◌&&◌, ◌||◌, List, [], ◌∷◌, length, take, drop, position, nat_lt, nat_le, ◌==◌, Option, Some, None, option_map, if◌then◌else◌, codes}
use Rattle.std.specs.List.{list_all, list_any}
use Rattle.std.specs.Char.{is_ascii_digit}
use Rattle.std.specs.Str.{bytes_eq}
use Rattle.std.specs.Str.Parse.{digits_value}
use Rattle.link_script.specs.Numbers.{is_numeral}
use Rattle.sides.specs.declared.object.Object.{Object}
use Rattle.sides.specs.declared.object.Object.TheVariants as objects
use Rattle.sides.specs.declared.side.Side.TheVariants as sides
use Rattle.run_log.specs.declared.outcome.Outcome.{Outcome}
use Rattle.run_log.specs.declared.outcome.Outcome.TheVariants as outcomes
use Rattle.run_log.specs.Lines.{outcome_word}
use Rattle.run_log.specs.Words.{object_word}

infixl 10 ◌>>=◌
abbrev pub ◌>>=◌ : {A B : Type 0} → Option A → (A → Option B) → Option B
(Some x) >>= f = f x
None >>= f = None

-- what stands before the first space, and what stands behind it
unfoldable pub field : List ℕ → Option (List ℕ × List ℕ)
field line = option_map (λ end. (take end line, drop (end + 1) line)) (position (λ octet. octet == 32) line)

-- one decimal digit or more
abbrev pub is_number : List ℕ → Bool
is_number word = nat_lt 0 (length word) && list_all is_ascii_digit word

-- the actor that a word names, one of so many
unfoldable pub actor_of : ℕ → List ℕ → Option ℕ
actor_of actors word = if is_number word && nat_lt (digits_value 10 word) actors then Some (digits_value 10 word) else None

-- the objects on which steps are made
abbrev pub all_objects : List Object
all_objects = objects.Send sides.A ∷ objects.Send sides.B ∷ objects.Reassembly sides.A ∷ objects.Reassembly sides.B ∷ objects.Control sides.A ∷ objects.Control sides.B ∷ objects.Me ∷ []

abbrev pub is_object : List ℕ → Bool
is_object word = list_any (λ object. bytes_eq (object_word object) word) all_objects

-- an octet from space to '~'
abbrev pub is_printable : ℕ → Bool
is_printable octet = nat_le 32 octet && nat_le octet 126

-- 1 to 400 octets that can be printed
abbrev pub are_words : List ℕ → Bool
are_words words = nat_le 1 (length words) && nat_le (length words) 400 && list_all is_printable words

-- the actor of a step line: a stamp of 1 to 20 digits, the actor, an object, and what was asked and answered, of which nothing else is
-- looked at
unfoldable pub step_actor : ℕ → List ℕ → Option ℕ
step_actor actors line = do
  stamp ← field line
  actor ← field stamp.1
  object ← field actor.1
  number ← actor_of actors actor.0
  if is_numeral stamp.0 && is_object object.0 && are_words object.1 then Some number else None

abbrev pub is_lower_hex : ℕ → Bool
is_lower_hex octet = nat_le 48 octet && nat_le octet 57 || nat_le 97 octet && nat_le octet 102

-- sixteen digits
abbrev pub is_key : List ℕ → Bool
is_key word = length word == 16 && list_all is_lower_hex word

-- a key before the space, and one behind it
abbrev pub are_keys : Option (List ℕ × List ℕ) → Bool
are_keys (Some (key_a, key_b)) = is_key key_a && is_key key_b
are_keys None = false

-- the word keys, and both keys behind it
abbrev pub keys_behind : Option (List ℕ × List ℕ) → Bool
keys_behind (Some (word, rest)) = bytes_eq word (codes "keys") && are_keys (field rest)
keys_behind None = false

-- the line of both keys
abbrev pub is_keys_line : List ℕ → Bool
is_keys_line line = keys_behind (field line)

abbrev pub all_outcomes : List Outcome
all_outcomes = outcomes.Delivered ∷ outcomes.Rounds ∷ outcomes.NoPath ∷ outcomes.Aborted ∷ []

abbrev pub is_outcome : List ℕ → Bool
is_outcome word = list_any (λ outcome. bytes_eq (outcome_word outcome) word) all_outcomes

-- the word outcome, and an outcome behind it
abbrev pub outcome_behind : Option (List ℕ × List ℕ) → Bool
outcome_behind (Some (word, rest)) = bytes_eq word (codes "outcome") && is_outcome rest
outcome_behind None = false

-- the last line, with any of the outcomes
abbrev pub is_outcome_line : List ℕ → Bool
is_outcome_line line = outcome_behind (field line)
