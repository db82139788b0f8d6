-- How large the numbers of a reply are, and what of the books keeps them so.
use Rattle.std.specs.Prelude.{ℕ, ◌+◌, ◌-◌, ◌^◌, ◌≤◌, IfSome, Option, Some, None, List, length, All, Contains}
use Rattle.linked_increase.specs.declared.rows.Row.{Row}
use Rattle.linked_increase.specs.Paths.{IsInRange}
use Rattle.send_book.specs.declared.call.SendReply.{SendReply}
use Rattle.send_book.specs.declared.call.SendReply.TheVariants as send_replies
use Rattle.send_book.specs.State.{Sending}
use Rattle.reassembly_book.specs.declared.call.ReassemblyReply.{ReassemblyReply}
use Rattle.reassembly_book.specs.declared.call.ReassemblyReply.TheVariants as reassembly_replies
use Rattle.reassembly_book.specs.State.{Arriving, top}
use Rattle.control_book.specs.declared.call.ControlCall.{ControlCall}
use Rattle.control_book.specs.declared.call.ControlCall.TheVariants as control_calls
use Rattle.control_book.specs.declared.call.ControlReply.{ControlReply}
use Rattle.control_book.specs.declared.call.ControlReply.TheVariants as control_replies
use Rattle.control_book.specs.Laws.{RowsAreRight}
use Rattle.actor_desk.specs.declared.ask.Ask.{Ask}
use Rattle.actor_desk.specs.declared.ask.Ask.TheVariants as asks
use Rattle.actor_desk.specs.declared.ask.Reply.{Reply}
use Rattle.actor_desk.specs.declared.ask.Reply.TheVariants as replies
use Rattle.actor_desk.specs.Desk.{SixBooks, reply_of, after_ask, opened_books}
use Rattle.actor_desk.specs.Kinds.{AreTiled, CanBeAsked, IsOfKind}

-- ---- replies within bounds

-- a place of a stream, or a number of its bytes: room for a buffer is left past the last place
abbrev pub IsPlace : ℕ → Type 0
IsPlace n = n ≤ 2 ^ 62 + 2 ^ 20

-- each place and each count in a send book's reply is such a number
abbrev pub IsSmallSend : SendReply → Type 0
IsSmallSend (send_replies.Taken count) = IsPlace count
IsSmallSend (send_replies.Granted span piece) = IsPlace span.from × IsPlace span.to
IsSmallSend (send_replies.NoGrant why known_end) = IfSome known_end IsPlace
IsSmallSend (send_replies.Acked bytes fin) = IsPlace bytes
IsSmallSend (send_replies.AckFuture written) = IsPlace written
IsSmallSend (send_replies.Returned count) = IsPlace count
IsSmallSend (send_replies.Infinite from) = IsPlace from
IsSmallSend _ = Unit {0}

-- a window is one of at most 1,048,576 octets
abbrev pub IsSmallReassembly : ReassemblyReply → Type 0
IsSmallReassembly (reassembly_replies.Placed count) = IsPlace count
IsSmallReassembly (reassembly_replies.Beyond edge) = IsPlace edge
IsSmallReassembly (reassembly_replies.FinClash fin at) = IsPlace fin × IsPlace at
IsSmallReassembly (reassembly_replies.Ack next window) = IsPlace next × (window ≤ 1048576)
IsSmallReassembly _ = Unit {0}

-- the rows are those of which one is the asked path's, and each can be linked (RFC 6356, section 3)
pub record CanGrow (asked : Row) (rows : List Row) : Type 0 where
  pub among : Contains rows asked
  pub in_range : All IsInRange rows

-- Rate: the rows are such, and one of them is what the path just told
abbrev pub IsSmallControl : ControlCall → ControlReply → Type 0
IsSmallControl (control_calls.Rate path window rtt) (control_replies.Rows rows) = CanGrow (record { path = path; window = window; rtt = rtt }) rows
IsSmallControl _ _ = Unit {0}

-- the numbers of the reply are within bounds
abbrev pub IsBounded : Ask → Reply → Type 0
IsBounded (asks.Send s call) (replies.Send reply) = IsSmallSend reply
IsBounded (asks.Reassembly s call) (replies.Reassembly reply) = IsSmallReassembly reply
IsBounded (asks.Control s call) (replies.Control reply) = IsSmallControl call reply
IsBounded _ _ = Unit {0}

-- the turn hasn't ended, and the reply is of the asked kind, within bounds
abbrev pub TakesReply : Option Ask → Reply → Type 0
TakesReply None r = ⊥
TakesReply (Some x) r = IsOfKind x r × IsBounded x r

-- ---- books within bounds

-- places stay below 2^62, that of DATA_FIN too
pub record IsWrittenSmall (b : Sending) : Type 0 where
  pub written : length b.written ≤ 2 ^ 62 - 3

-- bytes lie below place 2^62, the stream ends there at latest, and a book takes at most 1,048,576 octets past those read
pub record IsReceivedSmall (b : Arriving) : Type 0 where
  pub places : top b ≤ 2 ^ 62
  pub ends : IfSome b.known_end (λ e. e ≤ 2 ^ 62)
  pub room : b.capacity ≤ 1048576

-- the books of both sides are small, and each row that a control book keeps is its path's own and can be linked
pub record AreSmall (books : SixBooks) : Type 0 where
  pub send_a : IsWrittenSmall books.send_a
  pub send_b : IsWrittenSmall books.send_b
  pub reassembly_a : IsReceivedSmall books.reassembly_a
  pub reassembly_b : IsReceivedSmall books.reassembly_b
  pub control_a : RowsAreRight books.control_a.paths
  pub control_b : RowsAreRight books.control_b.paths

-- ---- laws

-- books that were opened with buffers of at most 1,048,576 octets are so
abbrev pub OpenedBooksAreSmall : Type 0
OpenedBooksAreSmall = (buffer key_a key_b : ℕ) → buffer ≤ 1048576 → AreSmall (opened_books buffer key_a key_b)

-- a call that meets its conditions leaves small books small
abbrev pub BooksStaySmall : Type 0
BooksStaySmall = (books : SixBooks) (x : Ask) → AreSmall books → CanBeAsked x → AreSmall (after_ask x books)

-- small books whose streams are tiled reply within bounds to each call that meets its conditions
abbrev pub BooksAnswerWithinBounds : Type 0
BooksAnswerWithinBounds = (books : SixBooks) (x : Ask) → AreTiled books → AreSmall books → CanBeAsked x → IsBounded x (reply_of books x)
