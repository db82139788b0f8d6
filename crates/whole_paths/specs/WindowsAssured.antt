-- A window that a bare segment tells comes, though more be sent behind it: each segment that may overtake it tells as much (RFC 8684, section
-- 3.3.5).
use Rattle.std.specs.Prelude.{ℕ, ◌+◌, ◌^◌, ◌≡◌, ◌<◌, ◌≤◌, ◌⊎◌, false, true, IfSome, Option, Some, List, [], ◌∷◌, ◌++◌, length}
use Rattle.sides.specs.declared.side.Side.{Side}
use Rattle.sides.specs.Side.{peer}
use Rattle.actor_desk.specs.Books.{books_in}
use Rattle.actor_desk.specs.Desk.{SixBooks}
use Rattle.path_segments.specs.Laws.{meant}
use Rattle.path_segments.specs.Options.{PlainOption}
use Rattle.path_segments.specs.Spelled.{PlainSegment}
use Rattle.path_segments.specs.declared.segment.PathMapping.{PathMapping}
use Rattle.path_segments.specs.declared.segment.PathOption.TheVariants.{Dss}
use Rattle.link_model.specs.declared.flight.Flight.{Flight}
use Rattle.path_core.specs.Looking.{first_sends, segment_sent}
use Rattle.path_core.specs.State.{PathState, end_at}
use Rattle.path_core.specs.Values.{Carried, as_arrived, values}
use Rattle.world_laws.specs.Openings.{PathPlan, Start}
use Rattle.world_laws.specs.Promises.{written_by}
use Rattle.world_laws.specs.RoundDone.{reached}
use Rattle.world_laws.specs.Worlds.{Turn}
use Rattle.whole_paths.specs.BareSegments.{IsBareFrom}
use Rattle.whole_paths.specs.Copies.{IsUnderWay}
use Rattle.whole_paths.specs.Finish.{IsPathAt, is_harmed}
use Rattle.whole_paths.specs.Mending.{IsBegunTurn, LeavesRoomFor}
use Rattle.whole_paths.specs.News.{one_if}
use Rattle.whole_paths.specs.Offered.{OffersUpTo}
use Rattle.whole_paths.specs.OnePathScripts.{BeginsWithOnePath}
use Rattle.whole_paths.specs.SegmentRounds.{Rounds}
use Rattle.whole_paths.specs.WindowsComing.{WindowComesBy}
use Rattle.whole_paths.specs.WindowsHeard.{IsOpenTo}

-- a segment says by its Data ACK and its window that bytes up to this place are taken
pub record SaysWindow (edge : ℕ) (x : PlainSegment) : Type 0 where
  pub next : ℕ
  pub mapping : Option (PathMapping ℕ)
  pub others : List PlainOption
  pub says : x.options ≡ Dss (Some next) mapping ∷ others
  pub low : next < 2 ^ 62
  pub wide : edge ≤ next + (meant x).window

-- each segment under way to the side that goes past the position says so; no SYN and no reset is meant
abbrev pub OvertakersSay : Side → ℕ → ℕ → PathState Carried → Type 0
OvertakersSay s position edge p = (g : Flight Carried) → IsUnderWay g p → g.to ≡ s → g.carried.segment.rst ≡ false → g.carried.segment.syn ≡ false
    → 0 < length g.carried.segment.payload + one_if g.carried.segment.fin
    → position < g.carried.segment.position + length g.carried.segment.payload + one_if g.carried.segment.fin → SaysWindow edge (as_arrived g.carried)

-- a bare segment that says so comes by this tick, or one that overtakes it; and what the peer sends from now on says so, too
pub record WindowFlies (six : SixBooks) (s : Side) (edge by : ℕ) (p : PathState Carried) : Type 0 where
  pub position : ℕ
  pub comes : WindowComesBy s position edge by p
  pub overtakers : OvertakersSay s position edge p
  pub offered : OffersUpTo six (peer s) (edge + 31) p

-- the side may send up to the place, or is told so by this tick
pub data IsAssured (six : SixBooks) (s : Side) (edge by : ℕ) (p : PathState Carried) : Type 0 where
  heard : IsOpenTo six s edge p → IsAssured six s edge by p
  flies : WindowFlies six s edge by p → IsAssured six s edge by p

-- as the path becomes another one, and the books are so before and after
pub record WindowsStayAssured (s : Side) (six after : SixBooks) (p q : PathState Carried) : Type 0 where
  -- what is assured by a tick is so by that tick still
  pub comes : (edge by : ℕ) → IsAssured six s edge by p → IsAssured after s edge by q
  -- A bare segment that the peer sends assures a place 31 bytes before what its end knows that its book takes, within 400 ticks; or it is harmed.
  pub sent : LeavesRoomFor s p → IfSome (first_sends p.agenda p) (λ x. x.from ≡ peer s → IsBareFrom (peer s) p (segment_sent p x)
      → (edge : ℕ) → OffersUpTo six (peer s) (edge + 31) p
      → (q ≡ p) ⊎ ((is_harmed (peer s) p q ≡ true) ⊎ IsAssured after s edge (p.clock + 400) q))

-- by each turn of a mild connection over one path between ends past the handshake, of which B's may send a DSS, and so may the peer's
abbrev pub WindowsAreAssured : Type 0
WindowsAreAssured = (start : Start) (plan : PathPlan) (turns : List Turn) (turn : Turn) → BeginsWithOnePath start plan
    → (h : IsBegunTurn start turns turn) (s : Side) → (end_at (peer s) h.before.path).modes.clear ≡ true
    → WindowsStayAssured s (books_in (reached values start turns).books) (books_in (reached values start (turns ++ turn ∷ [])).books) h.before.path h.after.path

-- In four rounds the side may send up to the place.
abbrev pub FourRoundsAssure : Type 0
FourRoundsAssure = (start : Start) (plan : PathPlan) (v u : List Turn) → BeginsWithOnePath start plan → Rounds start 4 v u → (s : Side)
    → (p : PathState Carried) → IsPathAt 0 (reached values start v) p
    → (edge : ℕ) → IsAssured (books_in (reached values start v).books) s edge (p.clock + 400) p
    → edge ≤ (written_by s (reached values start u)).edge
