-- By what an end of path 0 of a mild connection dies, as long as the other one lives too: by its sixth expiry in a row, by the line by which
-- the path dies, or as a side took the path's address back (RFC 8684, section 3.4.2).
use Rattle.std.specs.Prelude.{ℕ, ◌≡◌, ◌≤◌, true, false, Some, List}
use Rattle.sides.specs.declared.side.Side.{Side}
use Rattle.control_book.specs.Registry.{state_of}
use Rattle.actor_desk.specs.Books.{StampedBooks, books_in}
use Rattle.actor_desk.specs.Desk.{control_of}
use Rattle.subflow_tcp.specs.States.{is_dead}
use Rattle.path_store.specs.declared.lines.LineAction.TheVariants as actions
use Rattle.path_store.specs.declared.lines.LineLeft.{LineLeft}
use Rattle.path_core.specs.Events.{next_event}
use Rattle.path_core.specs.State.{PathState, end_at}
use Rattle.path_core.specs.Values.{Carried, values}
use Rattle.path_core.specs.declared.events.Event.TheVariants as happenings
use Rattle.world_laws.specs.Openings.{Start}
use Rattle.world_laws.specs.RoundDone.{reached}
use Rattle.world_laws.specs.Worlds.{Turn, after_turn}
use Rattle.whole_paths.specs.Expiries.{RunsOut}
use Rattle.whole_paths.specs.ExpiriesInARow.{in_a_row}
use Rattle.whole_paths.specs.Finish.{IsPathAt}
use Rattle.whole_paths.specs.Mild.{IsMildStart}

-- the side counts the address of the path of this number as removed
abbrev pub IsTakenBack : ℕ → Side → StampedBooks → Type 0
IsTakenBack number s books = (state_of (control_of s (books_in books)).paths number).removed ≡ true

-- by what comes next on path 0 the end of this side dies
pub data DiesMildly {C : Type 0} (s : Side) (books : StampedBooks) (p : PathState C) : Type 0 where
  -- its timer runs out, for the sixth time in a row at least
  sixth : (tick : ℕ) → RunsOut s tick p → 5 ≤ in_a_row (end_at s p) → DiesMildly s books p
  -- the line by which the path dies
  line : (line : LineLeft) → next_event p ≡ Some (happenings.Takes line) → line.action ≡ actions.Die → DiesMildly s books p
  -- a side took the path's address back
  taken_back : (t : Side) → IsTakenBack 0 t books → DiesMildly s books p

-- by any turn by which an end of path 0 dies, both of which live before
abbrev pub MildEndsDieOfExpiries : Type 0
MildEndsDieOfExpiries = (start : Start) (turns : List Turn) (turn : Turn) → IsMildStart start → let w = reached values start turns in (p q : PathState Carried)
    → IsPathAt 0 w p → IsPathAt 0 (after_turn values turn w) q → ((s : Side) → is_dead (end_at s p).tcp.state ≡ false)
    → (s : Side) → is_dead (end_at s q).tcp.state ≡ true → DiesMildly s w.books p
