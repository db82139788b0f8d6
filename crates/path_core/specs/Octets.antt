-- A copy carries octets: this is what the code does.
use Rattle.std.specs.Prelude.{ℕ, Option, List}
use Rattle.sides.specs.declared.side.Side.{Side}
use Rattle.link_model.specs.Octets.{octets_stripped, octets_altered}
use Rattle.path_segments.specs.declared.expected.Expected.{Expected}
use Rattle.path_segments.specs.declared.spelling.Spelling.{Spelling}
use Rattle.path_segments.specs.Spelled.{PlainSegment, spelled_text, spelled_sum}
use Rattle.path_segments.specs.Heard as hearing
use Rattle.path_segments.specs.Heard.{HeardSegment}
use Rattle.path_core.specs.Codec.{Codec}

-- a segment of this side as octets
abbrev pub made : Spelling → Side → PlainSegment → List ℕ
made spelling s segment = spelled_text spelling s segment

-- what the octets say that this side sent, by the positions that their hearer expects; nothing where they are no such segment
abbrev pub read : Spelling → Side → Expected → List ℕ → Option HeardSegment
read spelling s expected octets = hearing.heard_in spelling s expected octets

-- the checksum field is that of the octets
abbrev pub sum_of : Spelling → Side → PlainSegment → ℕ
sum_of spelling s segment = spelled_sum spelling s segment

abbrev pub octets : Codec (List ℕ)
octets = record {
  makes = made;
  reads = read;
  sum = sum_of;
  strips = λ spelling s carried. octets_stripped spelling.path s carried;
  alters = λ spelling s carried. octets_altered spelling.path s carried;
}
