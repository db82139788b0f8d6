-- What a connection of a list begins with.
use Rattle.std.specs.Prelude.{ℕ, ◌≡◌, ◌⊎◌, ◌<◌, ◌≤◌, List, length, Option, Ok, IfSome}
use Rattle.run_outside.specs.declared.input.Input.{Input}
use Rattle.connection_table.specs.Lists.{Names}
use Rattle.connection_table.specs.Scripts.{LeavesPayload, listed_reading}

-- the content of a name, where it is told
abbrev pub Contents : Type 0
Contents = List ℕ → Option (List ℕ)

-- an input's files have 65,536 octets at most
pub record IsShort (input : Input) : Type 0 where
  pub file_a : length input.file_a ≤ 65536
  pub file_b : length input.file_b ≤ 65536

-- what is told of this name has so many at most
abbrev pub IsWithin : Contents → List ℕ → Type 0
IsWithin content name = IfSome (content name) (λ told. length told ≤ 65536)

-- what is told of each name of a connection has 65,536 octets at most
pub record AreWithin (content : Contents) (names : Names) : Type 0 where
  pub script : IsWithin content names.script
  pub file_a : IsWithin content names.file_a
  pub file_b : IsWithin content names.file_b

-- an input is what a connection of these names begins with, as far as the contents are told; none is longer than
-- its limit, and no payload is altered
pub record IsInput (content : Contents) (names : Names) (input : Input) : Type 0 where
  pub script : IfSome (content names.script) (λ told. listed_reading told ≡ Ok input.script)
  pub within : IsWithin content names.script
  pub file_a : IfSome (content names.file_a) (λ told. input.file_a ≡ told)
  pub file_b : IfSome (content names.file_b) (λ told. input.file_b ≡ told)
  pub short : IsShort input
  pub leaves : LeavesPayload input.script

-- one of its contents is longer
pub record IsLong (content : Contents) (names : Names) : Type 0 where
  pub name : List ℕ
  pub among : (name ≡ names.script) ⊎ ((name ≡ names.file_a) ⊎ (name ≡ names.file_b))
  pub long : IfSome (content name) (λ told. 65536 < length told)
