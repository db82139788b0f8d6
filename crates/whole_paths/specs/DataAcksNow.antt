-- On the only path of a connection an end knows what its side received, so that its Data ACKs are up to date (RFC 8684, section 3.3.2), and how much
-- its book took then.
use Rattle.std.specs.Prelude.{ℕ, ◌+◌, ◌-◌, ◌≡◌, ◌<◌, ◌≤◌, ◌⊎◌, false, Some, IfSome, [], ◌∷◌, slice_get}
use Rattle.sides.specs.declared.side.Side.{Side}
use Rattle.reassembly_book.specs.State.{Arriving, received}
use Rattle.reassembly_book.specs.Steps.{next_wanted}
use Rattle.subflow_tcp.specs.States.{is_dead}
use Rattle.actor_desk.specs.Books.{books_in}
use Rattle.actor_desk.specs.Desk.{SixBooks, reassembly_of}
use Rattle.path_core.specs.End.{PathEnd}
use Rattle.path_core.specs.Looking.{first_sends, segment_sent}
use Rattle.path_core.specs.State.{PathState, end_at}
use Rattle.world_laws.specs.Members.{HoldsOfKind}
use Rattle.world_laws.specs.Actors.{ActorCrew}
use Rattle.world_laws.specs.Openings.{PathPlan, Start}
use Rattle.world_laws.specs.Worlds.{WorldState}
use Rattle.whole_paths.specs.Answered.{IsDone}

-- So many bytes the book took past those received, when so many were read; and since then none were read, or all, or 65,536 and more: as many as an
-- application reads at once.
pub record WindowSince (b : Arriving) (window : ℕ) : Type 0 where
  pub read : ℕ
  pub is : window ≡ read + b.capacity - received b
  pub low : received b ≤ read + b.capacity
  pub since : (b.read ≡ read) ⊎ ((received b ≤ b.read) ⊎ (read + 65536 ≤ b.read))

-- an end that was told by the book knows such a window
abbrev pub KnowsWindow : Arriving → PathEnd → Type 0
KnowsWindow b e = 0 < e.receiving.next + e.receiving.window → WindowSince b e.receiving.window

module _ {C : Type 0} where
  -- the end of this side knows the place that the side's reassembly book wants next
  abbrev pub IsUpToDate : SixBooks → Side → PathState C → Type 0
  IsUpToDate six s p = (end_at s p).receiving.next ≡ next_wanted (reassembly_of s six)

  -- of each end that isn't dead
  pub record KnowsWhatCame (six : SixBooks) (p : PathState C) : Type 0 where
    -- where the turn is over, or an event is next
    pub done : IsDone p → (s : Side) → is_dead (end_at s p).tcp.state ≡ false → IsUpToDate six s p
    -- where the end sends a segment next that is no reset
    pub sends : IfSome (first_sends p.agenda p) (λ t. is_dead (end_at t.from p).tcp.state ≡ false → (segment_sent p t).rst ≡ false → IsUpToDate six t.from p)
    pub windows : IfSome (first_sends p.agenda p) (λ t. is_dead (end_at t.from p).tcp.state ≡ false → (segment_sent p t).rst ≡ false
        → KnowsWindow (reassembly_of t.from six) (end_at t.from p))

  -- each path
  pub record EachDataAckIsUpToDate (w : WorldState C) : Type 0 where
    pub each : (actor : ℕ) (c : ActorCrew C) → slice_get w.crew actor ≡ Some c → HoldsOfKind (λ app. Unit {0}) (KnowsWhatCame (books_in w.books)) c.member

  -- where there is one path
  abbrev pub OnlyPathsAreUpToDate : Start → WorldState C → Type 0
  OnlyPathsAreUpToDate start w = (plan : PathPlan) → start.paths ≡ plan ∷ [] → EachDataAckIsUpToDate w
