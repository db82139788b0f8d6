-- A side that halts at the edge of its peer's window does so until the window opens or more is heard (RFC 9293, section 3.8.6.1).
use Rattle.std.specs.Prelude.{◌≡◌, ◌<◌, ◌⊎◌, true, false, Some, List, [], ◌∷◌, ◌++◌, length, slice_get}
use Rattle.sides.specs.declared.side.Side.{Side}
use Rattle.send_book.specs.State.{acked_len}
use Rattle.actor_desk.specs.Books.{books_in}
use Rattle.actor_desk.specs.Desk.{SixBooks, send_of}
use Rattle.path_core.specs.State.{PathState, end_at}
use Rattle.path_core.specs.Values.{Carried, values}
use Rattle.world_laws.specs.declared.member.Member.TheVariants.{App, Path}
use Rattle.world_laws.specs.Actors.{Actor, ActorCrew}
use Rattle.world_laws.specs.Openings.{PathPlan, Start}
use Rattle.world_laws.specs.RoundDone.{reached}
use Rattle.world_laws.specs.Worlds.{Turn, after_turn}
use Rattle.whole_paths.specs.Acknowledged.{AllIsAcknowledged}
use Rattle.whole_paths.specs.Finish.{IsPathAt}
use Rattle.whole_paths.specs.Mild.{IsMildStart}
use Rattle.whole_paths.specs.Waits.{IsNews}

-- the end knows that the window is shut, bytes are left that aren't acknowledged, and path 0 tried none of these
pub record IsHalted (six : SixBooks) (s : Side) (p : PathState Carried) : Type 0 where
  pub shut : (end_at s p).sending.shut ≡ true
  pub left : acked_len (send_of s six).marks < length (send_of s six).written
  pub untried : AllIsAcknowledged 0 (send_of s six)

-- as the path becomes another one, and the books are so
pub data HaltGoesOn (after : SixBooks) (s : Side) (p q : PathState Carried) : Type 0 where
  on : IsHalted after s q → HaltGoesOn after s p q
  -- bytes were granted
  sends : (end_at s p).tcp.send.nxt < (end_at s q).tcp.send.nxt → HaltGoesOn after s p q
  -- a Data ACK acknowledges more
  news : IsNews (end_at s p) (end_at s q) → HaltGoesOn after s p q

-- as the path becomes this actor
abbrev pub HaltsGoOn : SixBooks → SixBooks → Actor Carried → Actor Carried → Type 0
HaltsGoOn six after (Path p) (Path q) = (s : Side) → IsHalted six s p → HaltGoesOn after s p q
HaltsGoOn six after (App a) (App b) = Unit {0}
HaltsGoOn six after _ _ = ⊥

-- by any turn of a mild connection over one path, which is the actor 2
abbrev pub WhoHaltsGoesOnHalting : Type 0
WhoHaltsGoesOnHalting = (start : Start) (plan : PathPlan) (turns : List Turn) (turn : Turn) → start.paths ≡ plan ∷ [] → IsMildStart start
    → let w = reached values start turns in let v = after_turn values turn w in
    (c : ActorCrew Carried) → slice_get w.crew 2 ≡ Some c → (d : ActorCrew Carried) × (slice_get v.crew 2 ≡ Some d)
    × HaltsGoOn (books_in w.books) (books_in v.books) c.member d.member

-- ---- where nothing is said of what is acknowledged

-- By any turn of the only path a window that is shut stays so until bytes are granted, unless the end sends its FIN: what is left to be granted is
-- granted to nobody else.
abbrev pub ShutUntilGranted : Type 0
ShutUntilGranted = (start : Start) (plan : PathPlan) (turns : List Turn) (turn : Turn) → start.paths ≡ plan ∷ [] → IsMildStart start
    → (p q : PathState Carried) → IsPathAt 0 (reached values start turns) p → IsPathAt 0 (reached values start (turns ++ turn ∷ [])) q → (s : Side)
    → (end_at s p).sending.shut ≡ true → (end_at s q).tcp.send.finished ≡ false
    → ((end_at s q).sending.shut ≡ true) ⊎ ((end_at s p).tcp.send.nxt < (end_at s q).tcp.send.nxt)
