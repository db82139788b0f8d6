-- A list that another one begins with.
use Rattle.std.specs.Prelude.{◌≡◌, ℕ, List, ◌++◌}

-- whole is prefix, and then the rest
pub record IsPrefix (prefix whole : List ℕ) : Type 0 where
  pub rest : List ℕ
  pub whole_is : whole ≡ prefix ++ rest
