-- Why a reader is told that its peer aborted the connection (RFC 8684, section 3.5): the peer's application had asked for a fast
-- close, and its own side accepted one that has the side's key.
use Rattle.std.specs.Prelude.{◌≡◌, Bool, true, false}
use Rattle.std.specs.List.{list_any}
use Rattle.sides.specs.declared.side.Side.{Side}
use Rattle.sides.specs.declared.side.Side.TheVariants.{A, B}
use Rattle.sides.specs.Side.{peer}
use Rattle.stamped_book.specs.declared.stamped.Entry.{Entry}
use Rattle.control_book.specs.declared.call.ControlCall.{ControlCall}
use Rattle.control_book.specs.declared.call.ControlCall.TheVariants.{FastClose, FastHeard}
use Rattle.control_book.specs.declared.call.ControlReply.{ControlReply}
use Rattle.control_book.specs.declared.call.ControlReply.TheVariants.{Stopped}
use Rattle.actor_desk.specs.declared.ask.Ask.{Ask}
use Rattle.actor_desk.specs.declared.ask.Ask.TheVariants as asks
use Rattle.actor_desk.specs.declared.ask.Note.{Note}
use Rattle.actor_desk.specs.Books.{ControlJournal, StampedBooks}
use Rattle.actor_desk.specs.Words.{pick}
use Rattle.world_laws.specs.Outcomes.{was_told, tells_abort, notes_of}
use Rattle.world_laws.specs.Worlds.{WorldState}

-- the control book of this side is asked for a fast close
abbrev pub asks_fast_close : Side → Ask → Bool
asks_fast_close A (asks.Control A FastClose) = true
asks_fast_close B (asks.Control B FastClose) = true
asks_fast_close s _ = false

abbrev pub note_asks_fast_close : Side → Note → Bool
note_asks_fast_close s note = asks_fast_close s note.ask

-- a fast close was heard, and answered as one with the side's own key
abbrev pub accepts_fast_close : ControlCall → ControlReply → Bool
accepts_fast_close (FastHeard key) Stopped = true
accepts_fast_close _ _ = false

abbrev pub entry_accepts : Entry ControlCall ControlReply → Bool
entry_accepts entry = accepts_fast_close entry.call entry.reply

abbrev pub control_journal : Side → StampedBooks → ControlJournal
control_journal s books = pick s books.control_a books.control_b

module _ {C : Type 0} where
  -- the application of the reader's peer asked for a fast close, and the reader's side accepted it
  pub record PeerStopped (reader : Side) (w : WorldState C) : Type 0 where
    pub asked : list_any (note_asks_fast_close (peer reader)) (notes_of (peer reader) w.crew) ≡ true
    pub accepted : list_any entry_accepts (control_journal reader w.books).journal ≡ true

  -- a reader is told of an abort by the peer only where this is so
  abbrev pub AbortsHaveCause : WorldState C → Type 0
  AbortsHaveCause w = (reader : Side) → was_told tells_abort (notes_of reader w.crew) ≡ true → PeerStopped reader w
