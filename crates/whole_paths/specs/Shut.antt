-- What it means by the books that an end waits for its peer's window: all before the edge of the window is acknowledged (RFC 9293, section
-- 3.8.6.1; RFC 8684, section 3.3.5).
use Rattle.std.specs.Prelude.{ℕ, ◌≡◌, ◌<◌, ◌≤◌, true, false, Some, List, [], ◌∷◌, length, slice_get}
use Rattle.sides.specs.declared.side.Side.{Side}
use Rattle.send_book.specs.State.{Sending, acked_len}
use Rattle.actor_desk.specs.declared.ask.Note.{Note}
use Rattle.path_core.specs.Codec.{Codec}
use Rattle.path_core.specs.Emission.{may_ask}
use Rattle.path_core.specs.End.{PathEnd}
use Rattle.path_core.specs.State.{PathState, end_at}
use Rattle.world_laws.specs.Actors.{ActorCrew}
use Rattle.world_laws.specs.Members.{HoldsOfKind}
use Rattle.world_laws.specs.Openings.{PathPlan, Start}
use Rattle.world_laws.specs.Promises.{HasRoom, NumbersFit, written_by}
use Rattle.world_laws.specs.RoundNumbers.{BeginsRound, after_steps, last_on_standby, steps_since}
use Rattle.world_laws.specs.Worlds.{WorldState}

-- All is acknowledged that the book had as the round began, and the window isn't shut; or it is, all before the edge is acknowledged that the
-- book had then, and more was written; or the path was on standby when it asked for bytes last, in these steps; or the connection was
-- stopped there.
pub data IsSentToTheEdge (s : Side) (steps : List Note) (begun : Sending) (e : PathEnd) (book : Sending) : Type 0 where
  acknowledged : e.sending.shut ≡ false → length begun.written ≤ acked_len book.marks → IsSentToTheEdge s steps begun e book
  shut : e.sending.shut ≡ true → begun.edge ≤ acked_len book.marks → begun.edge < length book.written → acked_len book.marks ≤ book.edge
      → IsSentToTheEdge s steps begun e book
  standby : last_on_standby s false steps ≡ true → IsSentToTheEdge s steps begun e book
  stopped : book.aborted ≡ true → IsSentToTheEdge s steps begun e book

module _ {C : Type 0} where
  -- as the turn of a path is over, at an end that may ask for bytes and all of whose pieces are acknowledged
  abbrev pub LeavesNothingBeforeTheEdge : WorldState C → WorldState C → PathState C → Type 0
  LeavesNothingBeforeTheEdge begun w p = p.agenda ≡ [] → (s : Side) → may_ask p.profile s (end_at s p) ≡ true → (end_at s p).sending.granted ≡ []
      → IsSentToTheEdge s (steps_since 2 begun w) (written_by s begun) (end_at s p) (written_by s w)

  -- in each round of a connection over one path, which is the actor 2
  abbrev pub WhatIsLeftIsPastTheEdge : Codec C → Type 0
  WhatIsLeftIsPastTheEdge k = (start : Start) (plan : PathPlan) (begun : WorldState C) (order : List ℕ) → start.paths ≡ plan ∷ [] → HasRoom start → NumbersFit start
      → BeginsRound k start begun → let w = after_steps k order begun in
      (c : ActorCrew C) → slice_get w.crew 2 ≡ Some c → HoldsOfKind (λ app. Unit {0}) (LeavesNothingBeforeTheEdge begun w) c.member
