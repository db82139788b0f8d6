-- How the streams are called.
use Rattle.std.specs.Prelude.{ℕ, List, ◌++◌, codes}
use Rattle.std.specs.Fmt.{decimal}
use Rattle.sides.specs.declared.side.Side.{Side}
use Rattle.sides.specs.Side.{side_word}

-- the name of the stream that a side of a connection sent: PREFIX-N-a or PREFIX-N-b
unfoldable pub stream_name : List ℕ → ℕ → Side → List ℕ
stream_name prefix number side = prefix ++ codes "-" ++ decimal number ++ codes "-" ++ side_word side
