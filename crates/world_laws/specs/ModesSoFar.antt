-- The modes that a side is or was in, by the journal of its control book, which only grows (after RFC 8684, section 3.7).
use Rattle.std.specs.Prelude.{◌||◌, Bool, List, [], ◌∷◌}
use Rattle.sides.specs.declared.side.Side.{Side}
use Rattle.stamped_book.specs.declared.stamped.Entry.{Entry}
use Rattle.fallback_state.specs.declared.fall.Mode.{Mode}
use Rattle.control_book.specs.declared.call.ControlCall.{ControlCall}
use Rattle.control_book.specs.declared.call.ControlReply.{ControlReply}
use Rattle.control_book.specs.Control.{Control}
use Rattle.control_book.specs.Steps as control
use Rattle.actor_desk.specs.Books.{ControlJournal}
use Rattle.actor_desk.specs.Words.{pick}
use Rattle.world_laws.specs.Worlds.{WorldState}

-- whether this control book, or one that the entries make of it one by one, is in such a mode
abbrev pub was_by : (Mode → Bool) → Control → List (Entry ControlCall ControlReply) → Bool
was_by such book [] = such book.fall.mode
was_by such book (entry ∷ entries) =
    such book.fall.mode || was_by such (control.after book entry.call) entries

abbrev pub was_in : (Mode → Bool) → ControlJournal → Bool
was_in such stamped = was_by such stamped.opening stamped.journal

module _ {C : Type 0} where
  -- the side is in such a mode, or was
  abbrev pub was_ever : (Mode → Bool) → Side → WorldState C → Bool
  was_ever such s w = was_in such (pick s w.books.control_a w.books.control_b)
