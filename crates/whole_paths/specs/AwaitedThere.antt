-- Over one path, an open end without a record waits for its peer's window, or for a Data ACK of what the peer's side received (RFC 8684, section
-- 3.3.2).
use Rattle.std.specs.Prelude.{ℕ, ◌+◌, ◌≡◌, ◌≤◌, Bool, true, Some, List, [], ◌∷◌, slice_get}
use Rattle.sides.specs.declared.side.Side.{Side}
use Rattle.sides.specs.Side.{peer}
use Rattle.reassembly_book.specs.State.{received}
use Rattle.actor_desk.specs.Books.{books_in}
use Rattle.actor_desk.specs.Desk.{SixBooks, reassembly_of}
use Rattle.path_core.specs.State.{PathState, end_at}
use Rattle.path_core.specs.Values.{Carried, values}
use Rattle.world_laws.specs.Actors.{ActorCrew}
use Rattle.world_laws.specs.Members.{HoldsOfKind}
use Rattle.world_laws.specs.Openings.{PathPlan, Start}
use Rattle.world_laws.specs.RoundDone.{reached}
use Rattle.world_laws.specs.Worlds.{Turn}
use Rattle.whole_paths.specs.Mild.{IsMildStart}
use Rattle.whole_paths.specs.News.{one_if}
use Rattle.whole_paths.specs.OpenAsks.{IsUnansweredAt}
use Rattle.whole_paths.specs.Reasons.{IsOutstanding}
use Rattle.whole_paths.specs.Straying.{IsOpen}

-- the peer's window is shut; or a place isn't answered up to which all is received, but for that of the DATA_FIN
pub data WaitsForWhatIsThere (six : SixBooks) (s : Side) (p : PathState Carried) : Type 0 where
  shut : (end_at s p).sending.shut ≡ true → WaitsForWhatIsThere six s p
  asks : (place : ℕ) (fin : Bool) → IsUnansweredAt six s place fin p → place ≤ received (reassembly_of (peer s) six) + one_if fin → WaitsForWhatIsThere six s p

-- as the turn of an open path is over, at an end of which something is outstanding, but no record
abbrev pub AwaitedIsThere : SixBooks → PathState Carried → Type 0
AwaitedIsThere six p = IsOpen p → p.agenda ≡ [] → (s : Side) → (end_at s p).tcp.send.records ≡ [] → IsOutstanding (end_at s p) → WaitsForWhatIsThere six s p

-- at every moment of a mild connection over one path, which is the actor 2
abbrev pub WhatIsAwaitedIsThere : Type 0
WhatIsAwaitedIsThere = (start : Start) (plan : PathPlan) (turns : List Turn) → start.paths ≡ plan ∷ [] → IsMildStart start
    → let w = reached values start turns in (c : ActorCrew Carried) → slice_get w.crew 2 ≡ Some c
    → HoldsOfKind (λ app. Unit {0}) (AwaitedIsThere (books_in w.books)) c.member
