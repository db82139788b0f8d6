-- What the books answer to a path, beside the moves of its lanes.
use Rattle.std.specs.Prelude.{ℕ, ◌≡◌, ◌+◌, max, false, length}
use Rattle.path_segments.specs.Laws.{window_told}
use Rattle.reassembly_book.specs.State.{Arriving, received}
use Rattle.reassembly_book.specs.Steps.{next_wanted, window}
use Rattle.send_book.specs.State.{Sending}
use Rattle.send_book.specs.Steps.{is_future, after_ack}
use Rattle.stream_apps.specs.Apps.{AppState}
use Rattle.pace.specs.Lane.{Setting, Lane, data_ack}
use Rattle.pace.specs.Going.{Numbers}
use Rattle.pace.specs.Moves.{MayAsk}
use Rattle.clean_finish.specs.Reading.{end_known}
use Rattle.clean_finish.specs.Writing.{WriterIs}

-- a lane's reader and receiving end show in a reassembly book
pub record ReceiverIs (k : Setting) (w : Lane) (b : Arriving) : Type 0 where
  pub read : w.read ≡ b.read
  pub received : w.received ≡ received b
  pub known : b.known_end ≡ end_known w.data_fin_came k.total
  pub capacity : b.capacity ≡ k.buffer

-- AckOut answers the Data ACK of the lane, and a window whose edge, told in steps of 32 octets, is the lane's
pub record AsksAsALane (k : Setting) (w : Lane) (b : Arriving) : Type 0 where
  pub next : next_wanted b ≡ data_ack k w
  pub edge : MayAsk k (next_wanted b + window_told false (window b)) w

-- wherever a lane shows in a reassembly book, AckOut asks as the lane does
abbrev pub AckOutAsksAsLanes : Type 0
AckOutAsksAsLanes = (k : Setting) (w : Lane) (b : Arriving) → Numbers k w → ReceiverIs k w b → AsksAsALane k w b

-- AckIn acknowledges what the lane hears
abbrev pub AckInHearsAsLanes : Type 0
AckInHearsAsLanes = (k : Setting) (written closed acked next window : ℕ) (a : AppState) (b : Sending)
    → is_future next b ≡ false → length b.marks ≡ length b.written
    → WriterIs k written closed acked a b → WriterIs k written closed (max acked next) a (after_ack next window b)
