-- What a copy on a link carries, as far as the rules need it: how a segment is put into it, what a hearer reads in it, the
-- checksum field of a segment, and what the link's two changes make of it.
use Rattle.std.specs.Prelude.{ℕ, Option}
use Rattle.sides.specs.declared.side.Side.{Side}
use Rattle.path_segments.specs.declared.expected.Expected.{Expected}
use Rattle.path_segments.specs.declared.spelling.Spelling.{Spelling}
use Rattle.path_segments.specs.Heard.{HeardSegment}
use Rattle.path_segments.specs.Spelled.{PlainSegment}

-- The side is that of the end which sends.
pub record Codec (C : Type 0) : Type 0 where
  pub makes : Spelling → Side → PlainSegment → C
  pub reads : Spelling → Side → Expected → C → Option HeardSegment
  pub sum : Spelling → Side → PlainSegment → ℕ
  pub strips : Spelling → Side → C → C
  pub alters : Spelling → Side → C → C
