-- A wait for a window: until its exchange is over by this tick (RFC 9293, section 3.8.6.1).
use Rattle.std.specs.Prelude.{ℕ, ◌+◌, ◌≡◌, ◌<◌, ◌≤◌, ◌⊎◌, List, [], ◌∷◌}
use Rattle.sides.specs.declared.side.Side.{Side}
use Rattle.sides.specs.Side.{peer}
use Rattle.reassembly_book.specs.Steps as arriving
use Rattle.actor_desk.specs.Books.{books_in}
use Rattle.actor_desk.specs.Desk.{SixBooks}
use Rattle.path_core.specs.State.{PathState, end_at}
use Rattle.path_core.specs.Values.{Carried, values}
use Rattle.world_laws.specs.Openings.{PathPlan, Start}
use Rattle.world_laws.specs.Promises.{arrived_at, written_by}
use Rattle.world_laws.specs.RoundDone.{reached}
use Rattle.world_laws.specs.Worlds.{Turn}
use Rattle.whole_paths.specs.Awaited.{IsAwaited}
use Rattle.whole_paths.specs.Courses.{counted_at, round_end}
use Rattle.whole_paths.specs.EdgeStands.{IsShutOutAt}
use Rattle.whole_paths.specs.Finish.{IsPathAt}
use Rattle.whole_paths.specs.Halted.{IsHalted}
use Rattle.whole_paths.specs.Mild.{IsMildStart}
use Rattle.whole_paths.specs.RecordWaits.{OpensAt, StepsAt}
use Rattle.whole_paths.specs.Serving.{ServesAt}
use Rattle.whole_paths.specs.Straying.{IsOpen}

-- What is known of a side that halts, by the books and at its end of a path.
module _ (Halts : SixBooks → Side → PathState Carried → Type 0) where
  -- On a path, a side that halts, a place that it may not send up to yet, and whose window its end waits for; and the peer sent no more than the end's
  -- own window has room for.
  pub record IsWindowAwaited (six : SixBooks) (x : ℕ) (p : PathState Carried) : Type 0 where
    pub side : Side
    pub place : ℕ
    pub room : (end_at (peer side) p).tcp.send.nxt ≤ (end_at side p).tcp.recv.edge + 1048576
    pub halted : Halts six side p
    pub awaited : IsAwaited six side place x p

  -- after these turns, on the path of this number
  pub record AwaitsAWindowAt (number : ℕ) (start : Start) (x : ℕ) (turns : List Turn) : Type 0 where
    pub path : PathState Carried
    pub here : IsPathAt number (reached values start turns) path
    pub waits : IsWindowAwaited (books_in (reached values start turns).books) x path

  -- A side halts whose end of the path has no record; the peer's book takes 32 bytes past the edge of its side's.
  pub record HasAShutWindowAt (number : ℕ) (start : Start) (turns : List Turn) : Type 0 where
    pub path : PathState Carried
    pub here : IsPathAt number (reached values start turns) path
    pub side : Side
    pub no_record : (end_at side path).tcp.send.records ≡ []
    pub halted : Halts (books_in (reached values start turns).books) side path
    pub takes : (written_by side (reached values start turns)).edge + 32 ≤ arriving.edge (arrived_at (peer side) (reached values start turns))
    pub room : (end_at (peer side) path).tcp.send.nxt ≤ (end_at side path).tcp.recv.edge + 1048576

  -- Of each moment Holds is known of the path; Goes is what is to be so before a turn for the side to halt on.
  module _ (number : ℕ) (Holds : PathState Carried → Type 0) (start : Start) (Goes : List Turn → Type 0) (most : ℕ) where
    abbrev Waits : ℕ → List Turn → Type 0
    Waits x turns = AwaitsAWindowAt number start x turns

    abbrev Rises : List Turn → List Turn → Type 0
    Rises v u = counted_at values start number v < counted_at values start number u

    -- As a round begins a wait begins, for a minute and 400 ticks there and back; it goes on by each step, and as the next
    -- round begins, or something is counted; and no round begins past it.
    pub record WindowsAreAwaitedAt : Type 0 where
      pub begins : (v u : List Turn) → OpensAt number Holds start most v u → Goes v → HasAShutWindowAt number start v → Waits (round_end values start v + 60800) u
      pub on : (x : ℕ) (v u : List Turn) → StepsAt number Holds start most v u → Goes v → Waits x v → Rises v u ⊎ Waits x u
      pub next : (x : ℕ) (v u : List Turn) → OpensAt number Holds start most v u → Goes v → Waits x v → Rises v u ⊎ Waits x u
      pub due : (x : ℕ) (v u : List Turn) → OpensAt number Holds start most v u → Waits x v → x < round_end values start v → ⊥

  -- where path 0 is open
  module _ (start : Start) where
    abbrev pub AwaitsAWindow : ℕ → List Turn → Type 0
    AwaitsAWindow = AwaitsAWindowAt 0 start

    abbrev pub HasAShutWindow : List Turn → Type 0
    HasAShutWindow = HasAShutWindowAt 0 start

    abbrev pub WindowsAreAwaited : (List Turn → Type 0) → ℕ → Type 0
    WindowsAreAwaited = WindowsAreAwaitedAt 0 IsOpen start

-- in each mild connection over one path, whose side halts
abbrev pub WindowsAreAwaitedAlways : Type 0
WindowsAreAwaitedAlways = (start : Start) (plan : PathPlan) (most : ℕ) → start.paths ≡ plan ∷ [] → IsMildStart start
    → WindowsAreAwaited IsHalted start (λ turns. Unit {0}) most

-- path 0 doesn't stand by at either end, after these turns
abbrev pub DoesNotStandBy : Start → List Turn → Type 0
DoesNotStandBy start turns = ServesAt 0 (reached values start turns)

-- In each mild connection over any number of paths, where all before the edge is acknowledged, and more is written: as long as path 0 doesn't stand by.
abbrev pub ShutEndsAreAwaited : Type 0
ShutEndsAreAwaited = (start : Start) (most : ℕ) → IsMildStart start → WindowsAreAwaited IsShutOutAt start (DoesNotStandBy start) most
