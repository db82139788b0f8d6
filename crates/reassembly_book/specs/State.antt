-- A reassembly book by what it means: how many bytes were read, and for each place from there on the byte that came.
use Rattle.std.specs.Prelude.{ℕ, ◌+◌, ◌≤◌, Bool, Option, None, IfSome, List, [], length}
pub use Rattle.byte_pieces.specs.Places.{filled}

pub record Arriving : Type 0 where
  -- how many bytes were read
  pub read : ℕ
  -- the bytes from there on, by place; the last place has one
  pub places : List (Option ℕ)
  -- how many bytes there are in all, where that is known
  pub known_end : Option ℕ
  -- how many bytes past those read are taken
  pub capacity : ℕ
  -- whether the peer was the first to abort, where one did
  pub aborted : Option Bool

-- a book as it is opened
abbrev pub new_arriving : ℕ → Arriving
new_arriving capacity = record { read = 0; places = []; known_end = None; capacity = capacity; aborted = None }

-- what a book was opened with
abbrev pub opening : Arriving → Arriving
opening b = new_arriving b.capacity

-- how many bytes have arrived without a gap
abbrev pub received : Arriving → ℕ
received b = b.read + length (filled b.places)

-- the place after the last byte
abbrev pub top : Arriving → ℕ
top b = b.read + length b.places

-- no byte lies past the known end, or past what is taken
pub record IsSound (b : Arriving) : Type 0 where
  pub ends : IfSome b.known_end (λ e. top b ≤ e)
  pub fits : length b.places ≤ b.capacity
