-- The six books of a connection, and what they answer: each call by the book's own definitions.
use Rattle.std.specs.Prelude.{ℕ, Option, Some, None, List, ◌∷◌}
use Rattle.sides.specs.declared.side.Side.{Side}
use Rattle.sides.specs.declared.side.Side.TheVariants as side
use Rattle.send_book.specs.State as sending
use Rattle.send_book.specs.Steps as sending_steps
use Rattle.send_book.specs.declared.call.SendCall.{SendCall}
use Rattle.reassembly_book.specs.State as arriving
use Rattle.reassembly_book.specs.Steps as arriving_steps
use Rattle.reassembly_book.specs.declared.call.ReassemblyCall.{ReassemblyCall}
use Rattle.control_book.specs.Control as control
use Rattle.control_book.specs.Replies as control_replies
use Rattle.control_book.specs.Steps as control_steps
use Rattle.control_book.specs.declared.call.ControlCall.{ControlCall}
use Rattle.actor_desk.specs.declared.ask.Ask.{Ask}
use Rattle.actor_desk.specs.declared.ask.Ask.TheVariants as asks
use Rattle.actor_desk.specs.declared.ask.Reply.{Reply}
use Rattle.actor_desk.specs.declared.ask.Reply.TheVariants as replies
use Rattle.actor_desk.specs.Words.{pick}

-- a send book, a reassembly book and a control book for each side
pub record SixBooks : Type 0 where
  pub send_a : sending.Sending
  pub send_b : sending.Sending
  pub reassembly_a : arriving.Arriving
  pub reassembly_b : arriving.Arriving
  pub control_a : control.Control
  pub control_b : control.Control

abbrev pub send_of : Side → SixBooks → sending.Sending
send_of s books = pick s books.send_a books.send_b

abbrev pub reassembly_of : Side → SixBooks → arriving.Arriving
reassembly_of s books = pick s books.reassembly_a books.reassembly_b

abbrev pub control_of : Side → SixBooks → control.Control
control_of s books = pick s books.control_a books.control_b

-- what is answered; a local step is made by nobody
abbrev pub reply_of : SixBooks → Ask → Reply
reply_of books (asks.Send s call) = replies.Send (sending_steps.reply_to (send_of s books) call)
reply_of books (asks.Reassembly s call) = replies.Reassembly (arriving_steps.reply_to (reassembly_of s books) call)
reply_of books (asks.Control s call) = replies.Control (control_replies.reply_to (control_of s books) call)
reply_of books (asks.Local step) = replies.Done

-- the asked book after the call; the other five stay
abbrev pub after_send_call : Side → SendCall → SixBooks → SixBooks
after_send_call s call books = record books {
  send_a = pick s (sending_steps.after_call books.send_a call) books.send_a;
  send_b = pick s books.send_b (sending_steps.after_call books.send_b call);
}

-- the asked reassembly book after the call; the other five stay
abbrev pub after_reassembly_call : Side → ReassemblyCall → SixBooks → SixBooks
after_reassembly_call s call books = record books {
  reassembly_a = pick s (arriving_steps.after_call books.reassembly_a call) books.reassembly_a;
  reassembly_b = pick s books.reassembly_b (arriving_steps.after_call books.reassembly_b call);
}

-- the asked control book after the call; the other five stay
abbrev pub after_control_call : Side → ControlCall → SixBooks → SixBooks
after_control_call s call books = record books {
  control_a = pick s (control_steps.after books.control_a call) books.control_a;
  control_b = pick s books.control_b (control_steps.after books.control_b call);
}

-- the books after an ask
abbrev pub after_ask : Ask → SixBooks → SixBooks
after_ask (asks.Send s call) books = after_send_call s call books
after_ask (asks.Reassembly s call) books = after_reassembly_call s call books
after_ask (asks.Control s call) books = after_control_call s call books
after_ask (asks.Local step) books = books

-- as they are opened: with the size of the buffers, and the key of each side
abbrev pub opened_books : ℕ → ℕ → ℕ → SixBooks
opened_books buffer key_a key_b = record {
  send_a = sending.new_sending buffer;
  send_b = sending.new_sending buffer;
  reassembly_a = arriving.new_arriving buffer;
  reassembly_b = arriving.new_arriving buffer;
  control_a = control.new_control side.A key_a;
  control_b = control.new_control side.B key_b;
}

-- ---- steps

-- what was asked, and what was answered
pub record Step : Type 0 where
  pub ask : Ask
  pub reply : Reply

abbrev pub step : Ask → Reply → Step
step ask reply = record { ask = ask; reply = reply }

-- the step that this ask makes at the books, before these
abbrev pub step_told : Option Ask → SixBooks → List Step → List Step
step_told None books later = later
step_told (Some ask) books later = step ask (reply_of books ask) ∷ later
