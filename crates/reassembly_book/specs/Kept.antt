-- What a reassembly book keeps.
use Rattle.std.specs.Prelude.{ℕ, Bool, Option}
use Rattle.byte_pieces.specs.Places.{PlacedBytes}
use Rattle.reassembly_book.specs.State.{Arriving}

-- a book of these fields: `kept` has the bytes from the first one on that isn't read
abbrev pub as_arriving : PlacedBytes → ℕ → Option ℕ → Option Bool → Arriving
as_arriving kept capacity known_end aborted = record {
  read = kept.from;
  places = kept.places;
  known_end = known_end;
  capacity = capacity;
  aborted = aborted;
}
