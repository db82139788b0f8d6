-- The ticks of a path.
use Rattle.std.specs.Prelude.{ℕ}

-- the tick, and the first tick after the round
pub record Clock : Type 0 where
  pub tick : ℕ
  pub until : ℕ
