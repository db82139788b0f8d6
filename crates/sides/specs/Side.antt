-- The two sides of a connection.
use Rattle.std.specs.Prelude.{ℕ, List, codes}
use Rattle.sides.specs.declared.side.Side.{Side}
use Rattle.sides.specs.declared.side.Side.TheVariants.{A, B}

-- the side at the other end
abbrev pub peer : Side → Side
peer A = B
peer B = A

-- a side's word in scripts and logs
abbrev pub side_word : Side → List ℕ
side_word A = codes "a"
side_word B = codes "b"
