-- A send book by what it means: every byte that was written, with one mark for each of them (RFC 8684, section 3.3).
use Rattle.std.specs.Prelude.{ℕ, ◌≡◌, Bool, true, false, Option, None, List, [], length, replicate, take, count_by}
use Rattle.std.specs.List.{list_all}
use Rattle.send_book.specs.declared.mark.ByteMark.{ByteMark}
use Rattle.send_book.specs.declared.mark.ByteMark.TheVariants.{Acked}
use Rattle.send_book.specs.Marks.{is_acked, is_held_rightly}

pub record Sending : Type 0 where
  -- how many bytes may be unacknowledged
  pub buffer : ℕ
  pub written : List ℕ
  -- the mark of each written byte
  pub marks : List ByteMark
  -- nothing more is written
  pub closed : Bool
  pub aborted : Bool
  -- the first place that the peer has told no window for
  pub edge : ℕ
  -- DATA_FIN is acknowledged
  pub fin : Bool
  -- the path that alone sends, where there is one
  pub owner : Option ℕ

-- a book as it is opened
abbrev pub new_sending : ℕ → Sending
new_sending buffer = record {
  buffer = buffer;
  written = [];
  marks = [];
  closed = false;
  aborted = false;
  edge = 0;
  fin = false;
  owner = None;
}

-- what a book was opened with
abbrev pub opening : Sending → Sending
opening b = new_sending b.buffer

-- how many of these bytes are acknowledged
abbrev pub acked_len : List ByteMark → ℕ
acked_len marks = count_by is_acked marks

-- There are as many marks as bytes; the acknowledged ones come first; each holder is among those that tried its byte.
pub record Tile (b : Sending) : Type 0 where
  pub whole : length b.marks ≡ length b.written
  pub acked_first : take (acked_len b.marks) b.marks ≡ replicate (acked_len b.marks) Acked
  pub held : list_all is_held_rightly b.marks ≡ true
