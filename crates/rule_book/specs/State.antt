-- All that was judged: what both sides of each connection sent.
use Rattle.std.specs.Prelude.{ℕ, List, map}
use Rattle.sides.specs.declared.side.Side.{Side}
use Rattle.sides.specs.declared.side.Side.TheVariants.{A, B}
use Rattle.seen_connections.specs.Connections.{SeenFlows}
use Rattle.seen_streams.specs.State.{LaneValue, StreamValue}
use Rattle.seen_streams.specs.Shows.{lane_of, stream_of}
use Rattle.rule_book.specs.declared.book.Book.{Book}
use Rattle.rule_book.specs.declared.book.Lanes.{Lanes}
use Rattle.rule_book.specs.declared.judged.Judged.{Judged}

pub record BookValue : Type 0 where
  pub a : StreamValue
  pub b : StreamValue
  -- how many segments acknowledged positions that weren't seen
  pub gaps : ℕ

-- what the opener of a flow sent, and the other end
pub record LanesValue : Type 0 where
  pub opener : LaneValue
  pub other : LaneValue

-- the flows and connections, a book for each connection, lanes for each flow
pub record JudgedValue : Type 0 where
  pub seen : SeenFlows
  pub books : List BookValue
  pub lanes : List LanesValue

abbrev pub book_of : Book → BookValue
book_of book = record { a = stream_of book.a; b = stream_of book.b; gaps = book.gaps }

abbrev pub lanes_of : Lanes → LanesValue
lanes_of lanes = record { opener = lane_of lanes.opener; other = lane_of lanes.other }

abbrev pub judged_of : Judged → JudgedValue
judged_of judged = record { seen = judged.seen; books = map book_of judged.books.items; lanes = map lanes_of judged.lanes.items }

abbrev pub stream_at : Side → BookValue → StreamValue
stream_at A book = book.a
stream_at B book = book.b

abbrev pub with_stream : Side → StreamValue → BookValue → BookValue
with_stream A stream book = record book { a = stream }
with_stream B stream book = record book { b = stream }
