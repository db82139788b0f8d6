-- Where the peer's DATA_FIN came to an end, its side's reassembly book knows where the peer's stream ends, and wants the place behind it
-- once all bytes are received (RFC 8684, section 3.3.3).
use Rattle.std.specs.Prelude.{ℕ, ◌+◌, ◌≡◌, ◌≤◌, Bool, true, false, Some, IfSome, IsSome, List, slice_get}
use Rattle.sides.specs.declared.side.Side.{Side}
use Rattle.sides.specs.Side.{peer}
use Rattle.reassembly_book.specs.State.{received}
use Rattle.actor_desk.specs.Books.{StampedBooks, books_in}
use Rattle.actor_desk.specs.Desk.{SixBooks, reassembly_of}
use Rattle.path_core.specs.Looking.{first_sends, segment_sent}
use Rattle.path_core.specs.State.{PathState, end_at}
use Rattle.path_core.specs.Values.{Carried, values}
use Rattle.world_laws.specs.Actors.{ActorCrew}
use Rattle.world_laws.specs.Members.{HoldsOfKind}
use Rattle.world_laws.specs.Openings.{Start, opened_world}
use Rattle.world_laws.specs.Promises.{HasRoom}
use Rattle.world_laws.specs.Worlds.{WorldState, Turn, world_run}
use Rattle.whole_paths.specs.Closing.{IsFinHeard}
use Rattle.whole_paths.specs.DataAcksHeard.{IsPastTheEnd}
use Rattle.whole_paths.specs.DataAcksOwed.{WantsWhereItSends}
use Rattle.whole_paths.specs.News.{one_if}

module _ {C : Type 0} where
  -- ---- the book

  abbrev pub HasTheEnd : SixBooks → PathState C → Type 0
  HasTheEnd six p = (s : Side) → (end_at s p).sending.close.peer_came ≡ true → IsSome (reassembly_of s six).known_end

  -- by each end of each path
  pub record WhoHeardTheEndKnowsIt (w : WorldState C) : Type 0 where
    pub each : (actor : ℕ) (c : ActorCrew C) → slice_get w.crew actor ≡ Some c → HoldsOfKind (λ app. Unit {0}) (HasTheEnd (books_in w.books)) c.member

  -- ---- what goes out

  -- on any path, a DATA_FIN that a copy said, and that counts, came before the end sends a segment that is no reset
  abbrev pub EachEndIsToldFirst : PathState C → Type 0
  EachEndIsToldFirst p = (s : Side) → IsFinHeard s p → IfSome (first_sends p.agenda p) (λ t. t.from ≡ s → (segment_sent p t).rst ≡ false → (end_at s p).sending.close.peer_came ≡ true)

  -- The bytes before this place are received from the side, or all but the place of its DATA_FIN, which the peer heard. Then the peer's
  -- book wants the place, or one past it, as the peer sends.
  abbrev pub HeardIsWanted : StampedBooks → PathState C → Type 0
  HeardIsWanted books p = (s : Side) (place : ℕ) (fin : Bool) → IsPastTheEnd books s place fin
      → place ≤ received (reassembly_of (peer s) (books_in books)) + one_if fin
      → (fin ≡ true → IsFinHeard (peer s) p) → WantsWhereItSends (books_in books) (peer s) place p

-- at every moment
abbrev pub WhatIsHeardIsWanted : Type 0
WhatIsHeardIsWanted = (start : Start) (turns : List Turn) → HasRoom start → let w = world_run values turns (opened_world start) in
    (actor : ℕ) (c : ActorCrew Carried) → slice_get w.crew actor ≡ Some c → HoldsOfKind (λ app. Unit {0}) (HeardIsWanted w.books) c.member
