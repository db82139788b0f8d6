-- The turns that were made on a connection.
use Rattle.std.specs.Prelude.{ℕ, List}
use Rattle.run_log.specs.declared.turn.Turn as noted

-- with so much room for more of them
pub record Turns : Type 0 where
  pub made : List noted.Turn
  pub room : ℕ
