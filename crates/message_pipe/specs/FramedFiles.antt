-- An outside whose files are read as messages.
use Rattle.std.specs.Prelude.{ℕ, List}

-- the outside that lies below, and the names whose contents are lines
pub record Framed (O : Type 0) : Type 0 where
  pub inner : O
  pub file_a : List ℕ
  pub file_b : List ℕ
