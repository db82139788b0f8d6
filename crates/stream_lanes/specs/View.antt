-- What a lane may rely on of the two books and of the modes.
use Rattle.std.specs.Prelude.{ℕ, ◌≡◌, ◌+◌, Bool, not, ◌&&◌, ◌||◌, ◌==◌, ◌<◌, if◌then◌else◌, Option, Some, None, List, length, slice_get}
use Rattle.send_book.specs.declared.mark.ByteMark.{ByteMark}
use Rattle.send_book.specs.State.{Sending, acked_len}
use Rattle.reassembly_book.specs.State.{Arriving, received}
use Rattle.reassembly_book.specs.Steps.{edge}
use Rattle.stream_lanes.specs.Moves.{Flags}

pub record View : Type 0 where
  pub written : List ℕ
  pub marks : List ByteMark
  -- how many bytes are acknowledged, and one more where DATA_FIN may be
  pub acked : ℕ
  pub confirmed : ℕ
  -- how many bytes there are in all, where the stream is closed
  pub end : Option ℕ
  -- the first place that isn't taken yet
  pub room : ℕ
  -- how many bytes have arrived without a gap, and one more where these are all
  pub received : ℕ
  pub next : ℕ
  -- how far an acknowledgement may reach with its window
  pub edge : ℕ
  -- no join was answered
  pub alone : Bool
  -- a side fell back to plain TCP
  pub fallen : Bool
  -- links may alter payload, and mappings are checked
  pub alters : Bool
  pub checked : Bool
  -- all that the receiver placed is as it was sent
  pub exact : Bool
  -- the path that the send book was given to alone; how much was read, and what stands in the reassembly book
  pub owner : Option ℕ
  pub read : ℕ
  pub places : List (Option ℕ)

-- one where the stream is closed and these are all of its bytes: DATA_FIN takes the place after the last byte
abbrev pub all_in : Bool → List ℕ → ℕ → ℕ
all_in closed written count = if closed && (length written == count) then 1 else 0

abbrev pub end_of : Sending → Option ℕ
end_of s = if s.closed then Some (length s.written) else None

-- no link alters payload, or each mapping is checked and the receiver's side fell neither to plain TCP nor to an infinite
-- mapping
abbrev pub is_exact : Flags → Bool
is_exact f = not f.alters || (f.checked && not (f.receiver || f.loose))

abbrev pub view_of : Flags → Sending → Arriving → View
view_of f s b = record {
  written = s.written;
  marks = s.marks;
  acked = acked_len s.marks;
  confirmed = acked_len s.marks + all_in s.closed s.written (acked_len s.marks);
  end = end_of s;
  room = edge b;
  received = received b;
  next = received b + all_in s.closed s.written (received b);
  edge = edge b + all_in s.closed s.written (received b);
  alone = not f.answered;
  fallen = f.sender || f.receiver;
  alters = f.alters;
  checked = f.checked;
  exact = is_exact f;
  owner = s.owner;
  read = b.read;
  places = b.places;
}

-- the stream is closed, and has so many bytes
abbrev pub IsEnd : Option ℕ → ℕ → Type 0
IsEnd end at = end ≡ Some at

-- a place has been filled
pub data IsPlaced (read : ℕ) (places : List (Option ℕ)) (place : ℕ) : Type 0 where
  was_read : place < read → IsPlaced read places place
  stands : (i byte : ℕ) → place ≡ read + i → slice_get places i ≡ Some (Some byte) → IsPlaced read places place

abbrev pub IsIn : View → ℕ → Type 0
IsIn v place = IsPlaced v.read v.places place
