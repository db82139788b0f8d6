-- A side that stands at the edge of its peer's window, over any number of paths: it stays so until the edge rises (RFC 9293, section 3.8.6.1; RFC 8684,
-- section 3.3.5).
use Rattle.std.specs.Prelude.{ℕ, ◌≡◌, ◌<◌, ◌≤◌, ◌⊎◌, true, false, Some, List, length, slice_get}
use Rattle.sides.specs.declared.side.Side.{Side}
use Rattle.send_book.specs.State.{Sending, acked_len}
use Rattle.stream_lanes.specs.Marks.{AreNew}
use Rattle.actor_desk.specs.Books.{books_in}
use Rattle.actor_desk.specs.Desk.{SixBooks, send_of}
use Rattle.path_core.specs.State.{PathState, end_at}
use Rattle.path_core.specs.Values.{Carried, values}
use Rattle.world_laws.specs.declared.member.Member.TheVariants.{App, Path}
use Rattle.world_laws.specs.Actors.{Actor, ActorCrew}
use Rattle.world_laws.specs.Openings.{Start}
use Rattle.world_laws.specs.RoundDone.{reached}
use Rattle.world_laws.specs.Worlds.{Turn, after_turn}
use Rattle.whole_paths.specs.Mild.{IsMildStart}

-- all before the edge is acknowledged, and more is written
pub record StandsAtTheEdge (b : Sending) : Type 0 where
  pub acked : b.edge ≤ acked_len b.marks
  pub left : acked_len b.marks < length b.written

-- and the end knows that the window is shut
pub record IsShutOutAt (six : SixBooks) (s : Side) (p : PathState Carried) : Type 0 where
  pub shut : (end_at s p).sending.shut ≡ true
  pub stands : StandsAtTheEdge (send_of s six)

-- as a path that doesn't stand by becomes this actor: the end is shut out still, or the edge rises
abbrev pub StaysShutOut : SixBooks → SixBooks → Actor Carried → Actor Carried → Type 0
StaysShutOut six after (Path p) (Path q) = ((s : Side) → (end_at s p).modes.standby ≡ false) → (s : Side) → IsShutOutAt six s p
    → IsShutOutAt after s q ⊎ ((send_of s six).edge < (send_of s after).edge)
StaysShutOut six after (App a) (App b) = Unit {0}
StaysShutOut six after _ _ = ⊥

-- by any turn of a mild connection, whoever's it is
abbrev pub ShutEndsStayShut : Type 0
ShutEndsStayShut = (start : Start) (turns : List Turn) (turn : Turn) → IsMildStart start → let w = reached values start turns in let v = after_turn values turn w in
    (actor : ℕ) (c : ActorCrew Carried) → slice_get w.crew actor ≡ Some c
    → (d : ActorCrew Carried) × (slice_get v.crew actor ≡ Some d) × StaysShutOut (books_in w.books) (books_in v.books) c.member d.member

-- no path tried a byte at the edge of a window or past it, always
abbrev pub NothingIsTriedPastTheEdge : Type 0
NothingIsTriedPastTheEdge = (start : Start) (turns : List Turn) (s : Side) → let b = send_of s (books_in (reached values start turns).books) in AreNew b.edge b.marks
